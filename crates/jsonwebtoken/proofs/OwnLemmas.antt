-- A token whose header is not read, and the list of its key's own algorithm.
use Rattle.std.proofs.Common.{◌≡◌, ℕ, List, [], ◌∷◌, Option, Some, None, refl}
use Rattle.std.specs.Prelude.{MatchOption}
use Rattle.jwt_base.specs.Kind.{Kind}
use Rattle.jwt_base.specs.declared.algorithms.Algorithm.{Algorithm}
use Rattle.jsonwebtoken.specs.Own.{HasHeaderOf, listed}
use Rattle.jsonwebtoken.specs.Tests.{ArePartsOf, Contents, HasThreeParts, Parts, Test, header_call, header_order}
use Rattle.jsonwebtoken.specs.Tests.{header_tests, token_tests}
use Rattle.jsonwebtoken.specs.Steps.{Failed}
use Rattle.jsonwebtoken.specs.private_clauses.Steps.{bare, with_header_part}
use Rattle.jsonwebtoken.proofs.EachTest.{failed_by}
use Rattle.jsonwebtoken.proofs.Engine.{not_passed}
use Rattle.jsonwebtoken.proofs.Exits.{stop}

-- a test of the header fails at the token's header part
pub no_header : (token : List ℕ) (parts : Parts) → ArePartsOf token parts → (f : Test) (k : Kind)
    → (x : Contents) × Failed bare header_tests (with_header_part parts.header x) f k → (t : Contents) → ¬ HasHeaderOf token t
no_header token parts has f k s t p =
    let call = header_call token in
    let stopped = stop call header_order (HasThreeParts ∷ []) header_tests (record s.0 { parts = parts }) f k (has, tt) s.1 in
    not_passed (token_tests call) header_order f (failed_by call header_order refl stopped.0 f k stopped.1).0 t p

-- the slice of an algorithm, if there is one
pub listed_is : (own : Option Algorithm) (algorithms : List Algorithm)
    → MatchOption own (algorithms ≡ []) (λ a. algorithms ≡ a ∷ []) → algorithms ≡ listed own
listed_is None algorithms is = is
listed_is (Some a) algorithms is = is
