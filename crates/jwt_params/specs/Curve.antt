-- The curves and their names (RFC 7518 section 6.2.1.1, RFC 8037 section 2).
use Rattle.std.specs.Prelude.{ℕ, List, [], ◌∷◌, Option, codes, option_and_then}
use Rattle.serde_json.specs.Data.{Data}
use Rattle.serde_json.specs.Find.{as_str}
use Rattle.jwt_base.specs.Spelling.{spelled}
use Rattle.jwt_params.specs.declared.curves.EllipticCurve.{EllipticCurve}
use Rattle.jwt_params.specs.declared.curves.EllipticCurve.TheVariants.{P256, P384, P521, Ed25519}

-- the first three of RFC 7518 section 6.2.1.1, the last of RFC 8037 section 2
abbrev pub curve_name : EllipticCurve → List ℕ
curve_name P256 = codes "P-256"
curve_name P384 = codes "P-384"
curve_name P521 = codes "P-521"
curve_name Ed25519 = codes "Ed25519"

abbrev pub all_curves : List EllipticCurve
all_curves = P256 ∷ P384 ∷ P521 ∷ Ed25519 ∷ []

-- the curve of that name
abbrev pub curve_named : List ℕ → Option EllipticCurve
curve_named = spelled curve_name all_curves

-- the value of `crv` (RFC 7518 section 6.2.1.1, RFC 8037 section 2)
abbrev pub curve_from : Data → Option EllipticCurve
curve_from value = option_and_then curve_named (as_str value)
