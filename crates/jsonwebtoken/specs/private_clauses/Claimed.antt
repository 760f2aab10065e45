-- For private clauses: the times that the claims of a token allow.
use Rattle.std.specs.Prelude.{◌≡◌, List, [], ◌∷◌}
use Rattle.jwt_validation.specs.Claim.{claims_of}
use Rattle.jwt_validation.specs.Moments.{first_moment, last_moment}
use Rattle.jwt_validation.specs.Options.{Options}
use Rattle.jwt_validation.specs.declared.interval.Moments.{Moments}
use Rattle.jsonwebtoken.specs.Tests.{Contents, Test, HasThreeParts, PayloadIsBase64url, PayloadIsJson}

-- the tests that find a token's claims
abbrev pub value_tests : List Test
value_tests = HasThreeParts ∷ PayloadIsBase64url ∷ PayloadIsJson ∷ []

-- the times are those that the claims allow
abbrev pub AreClaimed : Options → Contents → Moments → Type 0
AreClaimed o x m = (m.first ≡ first_moment o (claims_of x.payload_value)) × (m.last ≡ last_moment o (claims_of x.payload_value))
