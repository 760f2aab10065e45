-- How many bytes prepared keys take, by a table of sizes. The table stands for the memory: no contract sees that.
use Rattle.std.specs.Prelude.{ℕ, ◌+◌, ◌*◌, List, length, if◌then◌else◌, nat_lt}
use Rattle.std.specs.BTreeMap.{BTreeMap, values}
use Rattle.std.specs.List.{sum_by}
use Rattle.std.specs.declared.string.String.{String}
use Rattle.jwt_base.specs.declared.algorithms.AlgorithmFamily.{AlgorithmFamily}
use Rattle.jwt_base.specs.declared.algorithms.AlgorithmFamily.TheVariants as family
use Rattle.jwt_crypto.specs.HmacPrepared as hmac
use Rattle.jwt_curves.specs.CurvePrepared as curve
use Rattle.jwt_keys.specs.Key.{Key, Plain, Components}
use Rattle.jwt_rsa.specs.RsaPrepared as rsa
use Rattle.jwt_verifier.specs.declared.entry.Entry.{Entry}
use Rattle.jwt_verifier.specs.declared.entry.Prepared.{Prepared}
use Rattle.jwt_verifier.specs.declared.entry.Prepared.TheVariants.{Secret, Rsa, Curve, Nothing}

-- a secret, for one algorithm: 1 KiB and its length
abbrev pub secret_size : List ℕ → ℕ
secret_size secret = 1024 + length secret

-- an RSA key with a modulus of this length: 1 KiB and four times the length
abbrev pub rsa_size : ℕ → ℕ
rsa_size modulus = 4 * modulus + 1024

-- a key in the family of ECDSA: 16 KiB on P-256, whose points have at most 65 bytes (SEC 1 section 2.3.3), and 24 KiB
-- on P-384
abbrev pub weierstrass_size : ℕ → ℕ
weierstrass_size point = if nat_lt 65 point then 24576 else 16384

-- a key on a curve with a point of this length: 32 KiB for Ed25519
abbrev pub point_size : AlgorithmFamily → ℕ → ℕ
point_size family.Hmac point = weierstrass_size point
point_size family.Rsa point = weierstrass_size point
point_size family.Ec point = weierstrass_size point
point_size family.Ed point = 32768

abbrev pub curve_size : Key → ℕ
curve_size (Plain f point) = point_size f (length point)
curve_size (Components n e) = 0

-- all that is prepared of a key
abbrev pub prepared_size : Prepared → ℕ
prepared_size (Secret secrets) = sum_by (λ k. secret_size k.1) (hmac.prepared_keys secrets)
prepared_size (Rsa keys) = sum_by (λ k. rsa_size (length k.0)) (rsa.prepared_keys keys)
prepared_size (Curve k) = curve_size (curve.prepared_key k)
prepared_size Nothing = 0

-- all that is prepared of the keys of a set
abbrev pub named_size : {Y : Type 0} → BTreeMap (String Y) Entry → ℕ
named_size m = sum_by (λ e. prepared_size e.prepared) (values m)
