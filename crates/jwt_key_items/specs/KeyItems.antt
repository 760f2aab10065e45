-- Key sets, item by item: which keys are kept, and why the other items are skipped (RFC 7517 section 5).
use Rattle.std.specs.Prelude.{◌≡◌, ◌⊎◌, ◌+◌, ◌^◌, ℕ, List, [], ◌∷◌, Option, Some, None, IsTrue, Bool, true, false, codes}
use Rattle.std.specs.Prelude.{⊤, length, MatchOption}
use Rattle.std.specs.List.{All, Any, filter_map}
use Rattle.serde_json.specs.Data.{Data, array, Items, no_items, item}
use Rattle.serde_json.specs.Find.{get}
use Rattle.jwt_base.specs.Algorithm.{all_algorithms, key_algorithm_of}
use Rattle.jwt_base.specs.Kind.{Kind}
use Rattle.jwt_base.specs.Kind as kind
use Rattle.jwt_base.specs.declared.algorithms.Algorithm.{Algorithm}
use Rattle.jwt_keys.specs.Jwk.{ReadsKey}
use Rattle.jwt_keys.specs.Key.{Key}
use Rattle.jwt_keys.specs.KeyOfJwk.{IsKeyOf, refusal_of}
use Rattle.jwt_keys.specs.declared.jwk.Jwk.{Jwk}
use Rattle.jwt_params.specs.declared.curves.EllipticCurve.{EllipticCurve}
use Rattle.jwt_params.specs.declared.curves.EllipticCurve.TheVariants as curve
use Rattle.jwt_params.specs.declared.parameters.AlgorithmParameters.{AlgorithmParameters}
use Rattle.jwt_params.specs.declared.parameters.AlgorithmParameters.TheVariants as types
use Rattle.jwt_params.specs.declared.uses.PublicKeyUse.TheVariants.{Signature}
use Rattle.jwt_secrets.specs.Blank.{IsBlankJwk}
use Rattle.jwt_secrets.specs.KeyTexts.{JwkHasKeyText}
use Rattle.jwt_standard.specs.StandardKeys.{verifier_refusal}
use Rattle.jwt_key_items.specs.declared.Item.{Item}
use Rattle.jwt_key_items.specs.declared.Usage.{Usage}
use Rattle.jwt_key_items.specs.declared.Usage.TheVariants.{Kept, Skipped}
use Rattle.jwt_key_items.specs.declared.Reason.{Reason}
use Rattle.jwt_key_items.specs.declared.Reason.TheVariants as reason

-- ---- the conditions of a kept key

-- it stands for a key (RFC 7518 section 6, RFC 8037 section 2)
abbrev pub StandsForKey : Jwk → Type 0
StandsForKey jwk = (key : Key) × IsKeyOf jwk.algorithm key

-- its `use` is absent, or `sig` (RFC 7517 section 4.2)
abbrev pub IsForSignatures : Jwk → Type 0
IsForSignatures jwk =
    (jwk.common.public_key_use ≡ None) ⊎ (jwk.common.public_key_use ≡ Some Signature)

-- its `alg` is absent, or this algorithm (RFC 7517 section 4.4): the condition of the test `KeyAlgMatches` of `jsonwebtoken`
abbrev pub AgreesWith : Algorithm → Jwk → Type 0
AgreesWith a jwk =
    (jwk.common.key_algorithm ≡ None) ⊎ (jwk.common.key_algorithm ≡ Some (key_algorithm_of a))

-- coordinates of the lengths of these texts are those of a point on the curve: 43 characters of base64url are 32 octets, and
-- 64 are 48 (RFC 7518 sections 6.2.1.2 and 6.2.1.3)
abbrev pub ArePointTexts : EllipticCurve → (x y : ℕ) → Type 0
ArePointTexts curve.P256 x y = (x ≡ 43) × (y ≡ 43)
ArePointTexts curve.P384 x y = (x ≡ 64) × (y ≡ 64)
ArePointTexts curve.P521 x y = ⊥
ArePointTexts curve.Ed25519 x y = ⊥

-- the same of a key of Ed25519 (RFC 8037 section 2)
abbrev pub IsEdwardsText : EllipticCurve → (x : ℕ) → Type 0
IsEdwardsText curve.P256 x = ⊥
IsEdwardsText curve.P384 x = ⊥
IsEdwardsText curve.P521 x = ⊥
IsEdwardsText curve.Ed25519 x = x ≡ 43

-- the key is on the curve that its `crv` names, as far as lengths tell
abbrev pub HasNamedCurve : AlgorithmParameters → Type 0
HasNamedCurve (types.EllipticCurve p) = ArePointTexts p.curve (length p.x) (length p.y)
HasNamedCurve (types.RSA p) = ⊤
HasNamedCurve (types.OctetKey p) = ⊤
HasNamedCurve (types.OctetKeyPair p) = IsEdwardsText p.curve (length p.x)
HasNamedCurve (types.Other p) = ⊤

-- a token of the algorithm can be verified with it: its `alg` and its `crv` agree, and a verifier is made with its key
abbrev pub VerifiesWith : Jwk → Algorithm → Type 0
VerifiesWith jwk a = AgreesWith a jwk × HasNamedCurve jwk.algorithm
    × ((key : Key) × IsKeyOf jwk.algorithm key × (verifier_refusal a key ≡ None))

-- it verifies with one of the twelve algorithms
abbrev pub Verifies : Jwk → Type 0
Verifies jwk = Any (VerifiesWith jwk) all_algorithms

-- the number is the bit if P holds, and else 0
abbrev pub IsBit : Type 0 → (bit number : ℕ) → Type 0
IsBit P bit number = (P × (number ≡ bit)) ⊎ ((¬ P) × (number ≡ 0))

-- the sum of the bits of the algorithms that verify with the key; the first algorithm has the number n
abbrev pub AreBitsFrom : Jwk → ℕ → List Algorithm → ℕ → Type 0
AreBitsFrom jwk n [] bits = bits ≡ 0
AreBitsFrom jwk n (a ∷ rest) bits = (first : ℕ) × ((more : ℕ)
    × ((bits ≡ first + more) × IsBit (VerifiesWith jwk a) (2 ^ n) first × AreBitsFrom jwk (n + 1) rest more))

-- the same for all twelve algorithms, numbered from 1
abbrev pub AreBitsOf : Jwk → ℕ → Type 0
AreBitsOf jwk bits = AreBitsFrom jwk 1 all_algorithms bits

-- ---- kept, or skipped

-- all conditions, in the order of the checks
abbrev pub IsKept : Jwk → Type 0
IsKept jwk = StandsForKey jwk × IsForSignatures jwk × Verifies jwk × (¬ IsBlankJwk jwk)
    × (¬ JwkHasKeyText jwk)

-- it stands for no key, and is refused with this kind
abbrev pub StandsForNone : Kind → Jwk → Type 0
StandsForNone k jwk = (¬ StandsForKey jwk) × (refusal_of jwk.algorithm ≡ k)

-- the reason names the first condition that fails
abbrev pub IsSkippedFor : Reason → Jwk → Type 0
IsSkippedFor reason.NotAKey jwk = ⊥
IsSkippedFor reason.Unsupported jwk = StandsForNone kind.UnsupportedAlgorithm jwk
IsSkippedFor reason.Base64 jwk = StandsForNone kind.Base64 jwk
IsSkippedFor reason.NotForSignatures jwk = StandsForKey jwk × (¬ IsForSignatures jwk)
IsSkippedFor reason.Unfit jwk = StandsForKey jwk × IsForSignatures jwk × (¬ Verifies jwk)
IsSkippedFor reason.AllZero jwk = StandsForKey jwk × IsForSignatures jwk × Verifies jwk
    × IsBlankJwk jwk
IsSkippedFor reason.KeyText jwk = StandsForKey jwk × IsForSignatures jwk × Verifies jwk
    × (¬ IsBlankJwk jwk) × JwkHasKeyText jwk

-- a kept key has the bits of its algorithms, and a skipped one a reason
abbrev pub IsUsage : Jwk → Usage → Type 0
IsUsage jwk (Kept bits) = IsKept jwk × AreBitsOf jwk bits
IsUsage jwk (Skipped why) = IsSkippedFor why jwk

-- ---- items

-- the JSON value reads as the item's key, which has this usage, or it reads as no key
abbrev pub IsItem : Data → Item → Type 0
IsItem d i = MatchOption i.key (((jwk : Jwk) → ¬ ReadsKey d jwk) × (i.usage ≡ Skipped reason.NotAKey))
    (λ jwk. ReadsKey d jwk × IsUsage jwk i.usage)

-- each JSON value is the item at its place
abbrev pub AreItems : Items → List Item → Type 0
AreItems no_items [] = Unit {0}
AreItems no_items (i ∷ more) = ⊥
AreItems (item d ds) [] = ⊥
AreItems (item d ds) (i ∷ more) = IsItem d i × AreItems ds more

-- `keys` is a list of these items; other members are ignored (RFC 7517 sections 5 and 5.1)
abbrev pub ReadsItems : Data → List Item → Type 0
ReadsItems d items = (ds : Items) × (get (codes "keys") d ≡ Some (array ds)) × AreItems ds items

-- the key, if its item is kept
abbrev pub key_kept : Usage → Option Jwk → Option Jwk
key_kept (Kept bits) key = key
key_kept (Skipped why) key = None

abbrev pub kept_key : Item → Option Jwk
kept_key i = key_kept i.usage i.key

-- the kept keys, in their order
abbrev pub kept_of : List Item → List Jwk
kept_of = filter_map kept_key

abbrev pub is_kept : Usage → Bool
is_kept (Kept bits) = true
is_kept (Skipped why) = false

-- no item is skipped
abbrev pub AreAllKept : List Item → Type 0
AreAllKept items = All (λ i. IsTrue (is_kept i.usage)) items
