-- The texts of numbers for C, and the number of an algorithm's name.
use Rattle.std.specs.Prelude.{◌≡◌, ◌==◌, ℕ, List, Option, Some, None, MatchOption, codes, option_map, if◌then◌else◌}
use Rattle.jwt_base.specs.Algorithm.{algorithm_named, name_of}
use Rattle.jsonwebtoken.specs.TestName.{test_name}
use Rattle.jwt_c_calls.specs.Status.{algorithm_numbered, status_text, unknown_number, version, IsGiven, IsKept}
use Rattle.jwt_c_calls.specs.TestNumbers.{further_test, test_numbered}

-- the number is that of the algorithm with this name (RFC 7518 section 3.1, RFC 8037 section 3.1), or 0 if there is none
abbrev pub IsNumberOfName : List ℕ → ℕ → Type 0
IsNumberOfName name n = MatchOption (algorithm_named name) (n ≡ 0) (λ a. algorithm_numbered n ≡ Some a)

-- the version of the library has the number 0
abbrev pub version_numbered : ℕ → Option (List ℕ)
version_numbered n = if n == 0 then Some version else None

-- the name of the test of a number
unfoldable pub test_named : ℕ → Option (List ℕ)
test_named n = if n == further_test then Some (codes "FurtherRulesHold") else option_map test_name (test_numbered n)

-- the text of a number: of a status, a test, an algorithm, or the version
abbrev pub text_numbered : ℕ → ℕ → Option (List ℕ)
text_numbered of n =
    if of == 1 then status_text n
    else (if of == 2 then test_named n
    else (if of == 3 then option_map name_of (algorithm_numbered n)
    else (if of == 4 then version_numbered n
    else None)))

-- the result of `jwt_text`: the text of the number; or the number has no text
abbrev pub LeavesText : (of n status len : ℕ) (before after : List ℕ) → Type 0
LeavesText of n status len before after = MatchOption (text_numbered of n)
    (IsKept unknown_number status len before after)
    (λ text. IsGiven text status len before after)
