-- `decode` with the provider of a verdict accepts exactly the tokens that the verdict vouches for.
use Rattle.std.proofs.Common.{ℕ, List, ◌∷◌, refl}
use Rattle.jwt_base.specs.declared.json.claims.Claims.{Ghosts as ClaimsOf}
use Rattle.jwt_validation.specs.declared.validation.Validation.{Validation}
use Rattle.jwt_crypto.specs.Verdict.{Verdict}
use Rattle.jwt_crypto.specs.law_proofs.VerdictMade.{is_made, made_by_own}
use Rattle.jsonwebtoken.specs.Order.{Passes}
use Rattle.jsonwebtoken.specs.Tests.{Call, Contents, decode_order, KeyFitsAlgorithm, SignatureIsAccepted, key_of, token_tests}
use Rattle.jsonwebtoken.specs.Vouched.{IsVouched, decoding_by_verdict, unasked_order}
use Rattle.jsonwebtoken.proofs.EachTest.{met, among}

module _ {T : Type 0} (claims : ClaimsOf T) (v : Verdict) (text : List ℕ) (validation : Validation) (time : ℕ)
    (t : Contents) where
  abbrev call : Call T
  call = decoding_by_verdict claims v text validation time

  pub vouched : Passes (token_tests call) decode_order t → IsVouched call v t
  vouched p =
      let verified = met call decode_order t p SignatureIsAccepted refl in
      record {
        tests = among call unasked_order decode_order t refl p;
        yes = verified.yes;
        algorithm = (is_made v t.header.alg (key_of call.keys t.jwk_key)
            (met call decode_order t p KeyFitsAlgorithm refl)).algorithm;
        message = verified.message;
        signature = verified.signature;
      }

  pub passed : IsVouched call v t → Passes (token_tests call) decode_order t
  passed w = among call decode_order (KeyFitsAlgorithm ∷ SignatureIsAccepted ∷ unasked_order) t refl
      (made_by_own v t.header.alg w.algorithm, (record { yes = w.yes; message = w.message; signature = w.signature }, w.tests))
