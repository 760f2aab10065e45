-- The extensions that a header asks its receiver to understand (RFC 7515 section 4.1.11).
use Rattle.std.specs.Prelude.{◌≡◌, ◌≢◌, ℕ, List, [], AllPairs, All, IfSome, IsSome, IsTrue, false}
use Rattle.serde_json.specs.Data.{Members}
use Rattle.serde_json.specs.Find.{get_member}
use Rattle.jwt_base.specs.Members.{is_named}
use Rattle.jwt_header.specs.Extras.{header_names}
use Rattle.jwt_validation.specs.Options.{Texts}
use Rattle.jwt_header.specs.declared.header.Header.{Header}

-- the standards do not define the name, the header has a member of it, and its receiver understands
-- it (RFC 7515 section 4.1.11)
pub record IsUnderstoodName (extras : Members) (understood : Texts) (name : List ℕ) : Type 0 where
  pub extension : is_named header_names name ≡ false
  pub present : IsSome (get_member name extras)
  pub known : IsTrue (understood name)

-- the list is not empty, names nothing twice, and each of its names is understood
-- (RFC 7515 section 4.1.11)
pub record IsUnderstoodList (names : List (List ℕ)) (extras : Members)
    (understood : Texts) : Type 0 where
  pub some : ¬ (names ≡ [])
  pub once : AllPairs (λ a b. a ≢ b) names
  pub each : All (IsUnderstoodName extras understood) names

-- if the header asks for extensions, they are understood (RFC 7515 section 4.1.11)
abbrev pub IsUnderstood : Texts → Header → Type 0
IsUnderstood understood h = IfSome h.crit (λ names. IsUnderstoodList names h.extras understood)
