use Rattle.std.proofs.Common.{◌≡◌, ◌∙◌, refl}
use Rattle.ecdsa.specs.Ecdsa.{is_public_key}
use Rattle.ecdsa.specs.Curves.{p384, b384, is_p384_key}
use Rattle.ecdsa.proofs.prepared_curves.p384_bytes_over.Goals as goal

pub returns-clause-is_key : goal.returns-clause-is_key
unfolding is_p384_key
returns-clause-is_key g c =
    let f = g.met.F.Field384 in
    let public = c.args.key.now.public.items in
    let same : is_public_key p384 b384 48 public ≡ is_public_key g.F.Residue.modulus g.F.BaseMultiples.b 48 public =
    rw (f.is_field, f.is_b) refl in
    same ∙ c.args.key.now.is_key
