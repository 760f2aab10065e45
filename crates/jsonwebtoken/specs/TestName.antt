-- The names of the tests of a token.
use Rattle.std.specs.Prelude.{ℕ, List, codes}
use Rattle.jsonwebtoken.specs.Tests.{Test, HasThreeParts, HeaderIsBase64url, HeaderIsJson, HeaderIsValid, CritIsUnderstood}
use Rattle.jsonwebtoken.specs.Tests.{KeyIsFound, KeyAlgMatches, KeyIsUsable, AlgorithmsAreConfigured}
use Rattle.jsonwebtoken.specs.Tests.{AlgorithmIsAllowed, KeyFitsAlgorithm, AlgorithmsShareFamily, SignatureIsBase64url}
use Rattle.jsonwebtoken.specs.Tests.{SignatureIsAccepted, PayloadIsBase64url, PayloadIsJson, ClaimsMatchType, ClaimsAreAnObject}
use Rattle.jsonwebtoken.specs.Tests.{ClaimsAreValid}

abbrev pub test_name : Test → List ℕ
test_name HasThreeParts = codes "HasThreeParts"
test_name HeaderIsBase64url = codes "HeaderIsBase64url"
test_name HeaderIsJson = codes "HeaderIsJson"
test_name HeaderIsValid = codes "HeaderIsValid"
test_name CritIsUnderstood = codes "CritIsUnderstood"
test_name KeyIsFound = codes "KeyIsFound"
test_name KeyAlgMatches = codes "KeyAlgMatches"
test_name KeyIsUsable = codes "KeyIsUsable"
test_name AlgorithmsAreConfigured = codes "AlgorithmsAreConfigured"
test_name AlgorithmIsAllowed = codes "AlgorithmIsAllowed"
test_name KeyFitsAlgorithm = codes "KeyFitsAlgorithm"
test_name AlgorithmsShareFamily = codes "AlgorithmsShareFamily"
test_name SignatureIsBase64url = codes "SignatureIsBase64url"
test_name SignatureIsAccepted = codes "SignatureIsAccepted"
test_name PayloadIsBase64url = codes "PayloadIsBase64url"
test_name PayloadIsJson = codes "PayloadIsJson"
test_name ClaimsMatchType = codes "ClaimsMatchType"
test_name ClaimsAreAnObject = codes "ClaimsAreAnObject"
test_name ClaimsAreValid = codes "ClaimsAreValid"
