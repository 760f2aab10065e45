use Rattle.std.proofs.Common.{◌≡◌, ◌<◌, ◌^◌, ◌%◌, ◌/◌, ◌∙◌, sym, arith}
use Rattle.std.proofs.lemmas.Bool.{false≢true}
use Rattle.residues.specs.Bytes.{little_endian}
use Rattle.residues.specs.Modulo.{times}
use Rattle.edwards.specs.Edwards.{Point}
use Rattle.edwards.specs.Numbers.{numbers}
use Rattle.ed25519.specs.Ed25519.{p}
use Rattle.ed25519.proofs.Curve.{prime}
use Rattle.ed25519.proofs.Encodings.{y_holds, y_same, decides}
use Rattle.ed25519.proofs.encoding.is_encoding.Goals as goal

pub returns-in_default : goal.returns-in_default
returns-in_default g c =
    let Q : Point = numbers g.F.Residue.number c.args.point in
    (λ h. cc, λ e. absurd (omega (arith, c.in_default.ensures, y_holds c.args.bytes.now Q c.requires.on_curve e)))

pub returns-then-not-is_same : goal.returns-then-not-is_same
unfolding numbers
returns-then-not-is_same g c =
    let f = g.met.F.Field.is_field in
    let n = g.F.Residue.number in
    let bs = c.args.bytes.now in
    let Q : Point = numbers n c.args.point in
    let found = c.in-Some.ensures in
    let below : Q.y < p = rw f at (g.met.F.Residue.number_below c.args.point.y) in
    let sign : little_endian bs / 2 ^ 255 < 2 = rw found.1 at found.2 in
    let product : n c.times.result ≡ times p (little_endian bs % 2 ^ 255) Q.z = rw (f, found.0) at c.times.ensures in (
      λ h. cc,
      λ e. absurd (false≢true (sym c.if-not-is_same.true
          ∙ c.is_same.ensures.1 (product ∙ y_same bs Q c.requires.on_curve below sign e))),
    )

pub invert_tested-requires-clause-fits : goal.invert_tested-requires-clause-fits
unfolding p
invert_tested-requires-clause-fits g c = omega (arith, g.met.F.Field.is_field)

pub invert_tested-requires-clause-above : goal.invert_tested-requires-clause-above
unfolding p
invert_tested-requires-clause-above g c = omega (arith, g.met.F.Field.is_field)

pub invert_tested-requires-clause-prime : goal.invert_tested-requires-clause-prime
invert_tested-requires-clause-prime g c = rw g.met.F.Field.is_field prime

pub returns : goal.returns
unfolding numbers
returns g c =
    let f = g.met.F.Field.is_field in
    let n = g.F.Residue.number in
    let bs = c.args.bytes.now in
    let Q : Point = numbers n c.args.point in
    let found = c.in-Some.ensures in
    let below : little_endian bs % 2 ^ 255 < p = rw (f, c.in-Some.ensures'.0) at (g.met.F.Residue.number_below c.in-Some.y) in
    let same : times p (little_endian bs % 2 ^ 255) Q.z ≡ Q.y =
    sym (rw (f, found.0) at c.times.ensures) ∙ c.is_same.ensures.0 c.if-not-is_same.false in
    decides bs Q c.requires.on_curve c.is_odd.result (n c.times-x.result) _ below found.2 found.1 same
    (rw (f, c.invert_tested.ensures, f) at c.times-x.ensures) c.is_odd.ensures
