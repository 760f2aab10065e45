use Rattle.std.proofs.Common.{◌≡◌, ◌∙◌, refl}
use Rattle.ecdsa.specs.Ecdsa.{is_public_key}
use Rattle.ecdsa.specs.Curves.{p256, b256, is_p256_key}
use Rattle.ecdsa.proofs.prepared_curves.p256_bytes_over.Goals as goal

pub returns-clause-is_key : goal.returns-clause-is_key
unfolding is_p256_key
returns-clause-is_key g c =
    let f = g.met.F.Field256 in
    let public = c.args.key.now.public.items in
    let same : is_public_key p256 b256 32 public ≡ is_public_key g.F.Residue.modulus g.F.BaseMultiples.b 32 public =
    rw (f.is_field, f.is_b) refl in
    same ∙ c.args.key.now.is_key
