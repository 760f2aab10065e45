-- The numbers that report to C which test of a token failed.
use Rattle.std.specs.Prelude.{◌-◌, ◌==◌, ℕ, List, [], ◌∷◌, Option, None, slice_get, if◌then◌else◌}
use Rattle.jsonwebtoken.specs.declared.refusal.Test.{Test}
use Rattle.jsonwebtoken.specs.declared.refusal.Test.TheVariants.{HasThreeParts, HeaderIsBase64url, HeaderIsJson, HeaderIsValid}
use Rattle.jsonwebtoken.specs.declared.refusal.Test.TheVariants.{CritIsUnderstood, KeyIsFound, KeyAlgMatches}
use Rattle.jsonwebtoken.specs.declared.refusal.Test.TheVariants.{KeyIsUsable, AlgorithmsAreConfigured, AlgorithmIsAllowed}
use Rattle.jsonwebtoken.specs.declared.refusal.Test.TheVariants.{KeyFitsAlgorithm, AlgorithmsShareFamily, SignatureIsBase64url}
use Rattle.jsonwebtoken.specs.declared.refusal.Test.TheVariants.{SignatureIsAccepted, PayloadIsBase64url, PayloadIsJson}
use Rattle.jsonwebtoken.specs.declared.refusal.Test.TheVariants.{ClaimsMatchType, ClaimsAreAnObject, ClaimsAreValid}

abbrev pub test_number : Test → ℕ
test_number HasThreeParts = 1
test_number HeaderIsBase64url = 2
test_number HeaderIsJson = 3
test_number HeaderIsValid = 4
test_number CritIsUnderstood = 5
test_number KeyIsFound = 6
test_number KeyAlgMatches = 7
test_number KeyIsUsable = 8
test_number AlgorithmsAreConfigured = 9
test_number AlgorithmIsAllowed = 10
test_number KeyFitsAlgorithm = 11
test_number AlgorithmsShareFamily = 12
test_number SignatureIsBase64url = 13
test_number SignatureIsAccepted = 14
test_number PayloadIsBase64url = 15
test_number PayloadIsJson = 16
test_number ClaimsMatchType = 17
test_number ClaimsAreAnObject = 18
test_number ClaimsAreValid = 19

-- the tests in the order of their numbers
abbrev pub all_tests : List Test
all_tests = HasThreeParts ∷ HeaderIsBase64url ∷ HeaderIsJson ∷ HeaderIsValid ∷ CritIsUnderstood ∷ KeyIsFound
    ∷ KeyAlgMatches ∷ KeyIsUsable ∷ AlgorithmsAreConfigured ∷ AlgorithmIsAllowed ∷ KeyFitsAlgorithm
    ∷ AlgorithmsShareFamily ∷ SignatureIsBase64url ∷ SignatureIsAccepted ∷ PayloadIsBase64url ∷ PayloadIsJson
    ∷ ClaimsMatchType ∷ ClaimsAreAnObject ∷ ClaimsAreValid ∷ []

-- the test of a number
abbrev pub test_numbered : ℕ → Option Test
test_numbered n = if n == 0 then None else slice_get all_tests (n - 1)

-- the number of the test of the further rules of options, which comes last
abbrev pub further_test : ℕ
further_test = 20
