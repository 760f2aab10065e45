use Rattle.std.proofs.Common.{ap, ◌∙◌}
use Rattle.residues.specs.Modulo.{times}
use Rattle.weierstrass.proofs.entries.entry_for.Goals as goal

pub returns-clause-kept : goal.returns-clause-kept
returns-clause-kept g c = record {
  square = c.times-zz.ensures;
  cube = c.times-zzz.ensures ∙ ap (λ z. times g.F.Residue.modulus (g.F.Residue.number c.args.point.z) z) c.times-zz.ensures;
}
