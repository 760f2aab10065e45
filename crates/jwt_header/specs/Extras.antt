-- The free members of a header.
use Rattle.std.specs.Prelude.{◌≡◌, ℕ, List, [], ◌∷◌, false, Option, Some, None, option_and_then, if◌then◌else◌, codes}
use Rattle.serde_json.specs.Data.{Data, Members, put}
use Rattle.serde_json.specs.Find.{as_object}
use Rattle.serde_json.specs.Written.{has_float, members_have_float}
use Rattle.jwt_base.specs.Members.{is_named, has_named}

-- RFC 7515 section 4.1, RFC 7516 section 4.1, RFC 8555 section 6
abbrev pub header_names : List (List ℕ)
header_names = codes "alg" ∷ codes "typ" ∷ codes "cty" ∷ codes "jku" ∷ codes "jwk" ∷ codes "kid" ∷ codes "x5u"
    ∷ codes "x5c" ∷ codes "x5t" ∷ codes "x5t#S256" ∷ codes "crit" ∷ codes "enc" ∷ codes "zip" ∷ codes "url" ∷ codes "nonce" ∷ []

-- none of the header's names, and no float
pub record IsExtras (ms : Members) : Type 0 where
  pub free : has_named header_names ms ≡ false
  pub no_float : members_have_float ms ≡ false

-- the value is the object of these members, and they may be extras
abbrev pub ReadsExtras : Data → Members → Type 0
ReadsExtras d ms = (as_object d ≡ Some ms) × IsExtras ms

-- the members with that value at the name; None if the name is the header's, or there is no value,
-- or a float is in it
abbrev pub inserted : List ℕ → Option Data → Members → Option Members
inserted name value ms = if is_named header_names name then None else option_and_then
    (λ d. if has_float d then None else Some (put name d ms)) value
