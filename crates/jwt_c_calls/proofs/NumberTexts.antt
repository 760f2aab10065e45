-- The texts of the numbers that report a test or an algorithm.
use Rattle.std.proofs.Common.{◌≡◌, ℕ, Some, ap, option_map, refl}
use Rattle.jwt_base.specs.Algorithm.{name_of}
use Rattle.jwt_base.specs.declared.algorithms.Algorithm.{Algorithm}
use Rattle.jsonwebtoken.specs.TestName.{test_name}
use Rattle.jsonwebtoken.specs.declared.refusal.Test.{Test}
use Rattle.jsonwebtoken.specs.declared.refusal.Test.TheVariants.{HasThreeParts, HeaderIsBase64url, HeaderIsJson, HeaderIsValid}
use Rattle.jsonwebtoken.specs.declared.refusal.Test.TheVariants.{CritIsUnderstood, KeyIsFound, KeyAlgMatches}
use Rattle.jsonwebtoken.specs.declared.refusal.Test.TheVariants.{KeyIsUsable, AlgorithmsAreConfigured, AlgorithmIsAllowed}
use Rattle.jsonwebtoken.specs.declared.refusal.Test.TheVariants.{KeyFitsAlgorithm, AlgorithmsShareFamily, SignatureIsBase64url}
use Rattle.jsonwebtoken.specs.declared.refusal.Test.TheVariants.{SignatureIsAccepted, PayloadIsBase64url, PayloadIsJson}
use Rattle.jsonwebtoken.specs.declared.refusal.Test.TheVariants.{ClaimsMatchType, ClaimsAreAnObject, ClaimsAreValid}
use Rattle.jwt_c_calls.specs.Status.{algorithm_numbered}
use Rattle.jwt_c_calls.specs.TestNumbers.{test_number}
use Rattle.jwt_c_calls.specs.Texts.{test_named, text_numbered}

pub test_texts : (t : Test) → text_numbered 2 (test_number t) ≡ Some (test_name t)
unfolding test_named
test_texts HasThreeParts = refl
test_texts HeaderIsBase64url = refl
test_texts HeaderIsJson = refl
test_texts HeaderIsValid = refl
test_texts CritIsUnderstood = refl
test_texts KeyIsFound = refl
test_texts KeyAlgMatches = refl
test_texts KeyIsUsable = refl
test_texts AlgorithmsAreConfigured = refl
test_texts AlgorithmIsAllowed = refl
test_texts KeyFitsAlgorithm = refl
test_texts AlgorithmsShareFamily = refl
test_texts SignatureIsBase64url = refl
test_texts SignatureIsAccepted = refl
test_texts PayloadIsBase64url = refl
test_texts PayloadIsJson = refl
test_texts ClaimsMatchType = refl
test_texts ClaimsAreAnObject = refl
test_texts ClaimsAreValid = refl

pub algorithm_texts : (n : ℕ) (a : Algorithm) → algorithm_numbered n ≡ Some a → text_numbered 3 n ≡ Some (name_of a)
algorithm_texts n a e = ap (option_map name_of) e
