-- The algorithm that a key of a set is for, by its own `alg`, which takes the place of those that are listed.
use Rattle.std.specs.Prelude.{◌≡◌, ◌⊎◌, ℕ, List, [], ◌∷◌, Option, Some, None, option_and_then}
use Rattle.jwt_base.specs.Algorithm.{algorithm_of}
use Rattle.jwt_base.specs.declared.algorithms.Algorithm.{Algorithm}
use Rattle.jwt_header.specs.declared.header.Header.{Header}
use Rattle.jwt_keys.specs.declared.jwk.Jwk.{Jwk}
use Rattle.jwt_validation.specs.Options.{Options}
use Rattle.jsonwebtoken.specs.Order.{Passes}
use Rattle.jsonwebtoken.specs.Tests.{Call, Contents, header_call, header_order, named_key, token_tests}

-- the algorithm that a key is for, by its `alg` (RFC 7517 section 4.4)
abbrev pub own_of : Jwk → Option Algorithm
own_of jwk = option_and_then algorithm_of jwk.common.key_algorithm

-- the algorithm that the key which a header names is for (RFC 7517 section 4.4)
abbrev pub named_own : List Jwk → Header → Option Algorithm
named_own keys header =
    option_and_then own_of (named_key keys header)

-- the contents have the header of the token, which is not verified
abbrev pub HasHeaderOf : List ℕ → Contents → Type 0
HasHeaderOf token t = Passes (token_tests (header_call token)) header_order t

-- the algorithm of the key of a set that the token's header names; none if the token has no header
abbrev pub IsNamedBy : List Jwk → List ℕ → Option Algorithm → Type 0
IsNamedBy keys token named =
    ((t : Contents) × HasHeaderOf token t × (named ≡ named_own keys t.header))
    ⊎ ((named ≡ None) × ((t : Contents) → ¬ HasHeaderOf token t))

-- this algorithm alone, or none (RFC 8725 section 3.1)
abbrev pub listed : Option Algorithm → List Algorithm
listed None = []
listed (Some a) = a ∷ []

-- the options with these algorithms instead
abbrev pub with_algorithms : Options → List Algorithm → Options
with_algorithms o algorithms = record o { algorithms = algorithms }

-- the call that accepts this algorithm alone, or none
abbrev pub with_own : {T : Type 0} → Call T → Option Algorithm → Call T
with_own call own = record call { options = with_algorithms call.options (listed own) }
