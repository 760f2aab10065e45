-- `encode` with the provider of a given signature issues exactly the tokens that it is for.
use Rattle.std.proofs.Common.{◌≡◌, ℕ, List, [], ◌∷◌, Option, ◌++◌, sym, ap, ◌∙◌}
use Rattle.std.proofs.lemmas.List.{append_assoc}
use Rattle.serde_json.specs.Data.{Data}
use Rattle.jwt_base.specs.Algorithm.{family_of}
use Rattle.base64.specs.Rfc4648.{encode_symbols}
use Rattle.jwt_base.specs.Base64Url.{url_characters}
use Rattle.jwt_crypto.specs.GivenSignature.{GivenSignature, IsGiven}
use Rattle.jwt_crypto.specs.law_proofs.SignatureMade.{is_by, by_own, is_given, given_by_own}
use Rattle.jwt_header.specs.declared.header.Header.{Header}
use Rattle.jwt_keys.specs.Key.{Plain}
use Rattle.jsonwebtoken.specs.Issue.{Issue, Written, message_to_sign, issue_tests, encode_order, IsIssued, IsReadBack}
use Rattle.jsonwebtoken.specs.IssueGiven.{encoding_by_signature, IsSignedElsewhere, IsReadAsGiven, token_of}
use Rattle.jsonwebtoken.specs.Order.{Passes}
use Rattle.jsonwebtoken.specs.Tests.{dot}

module _ (g : GivenSignature) (header : Header) (written : Option Data) where
  abbrev issue : Issue
  issue = encoding_by_signature g header written

  pub elsewhere : (t : Written) → Passes (issue_tests issue) encode_order t → IsSignedElsewhere issue g t
  elsewhere t p =
      let given = is_given g (message_to_sign t) p.1.1.1.1.0 in
      record {
        tests = (p.1.1.0, (p.1.1.1.0, tt));
        algorithm = is_by g header.alg issue.key p.1.0;
        message = given.message;
        length = given.length;
      }

  pub passed : (t : Written) → IsSignedElsewhere issue g t → Passes (issue_tests issue) encode_order t
  passed t w = (
    sym (ap family_of w.algorithm),
    (
      by_own g header.alg w.algorithm,
      (w.tests.0, (w.tests.1.0, (given_by_own g (message_to_sign t) (record { message = w.message; length = w.length }), tt))),
    ),
  )

  -- an issued token is the given message, a dot and the part of the given signature
  pub is_token : (t : Written) (x : List ℕ) → IsIssued issue t x → x ≡ token_of g
  is_token t x i =
      let p = i.0 in
      let a = i.2 in
      let part : p.signature ≡ encode_symbols url_characters g.signature = a.signature.1
      ∙ ap (encode_symbols url_characters) a.signed.signature in
      i.1 ∙ sym (append_assoc p.header (dot ∷ p.payload) (dot ∷ p.signature))
      ∙ ap (λ (m : List ℕ). m ++ dot ∷ p.signature) a.signed.message
      ∙ ap (λ (s : List ℕ). g.message ++ dot ∷ s) part

  pub read_as_given : (v : Data) (x : List ℕ) → IsReadBack issue (λ _ _. IsGiven g) v x → IsReadAsGiven issue g v x
  read_as_given v x r =
      let a = r.accepted (Plain (family_of g.algorithm) []) (λ m s _ _ h. h) in
      record {
        contents = r.contents;
        passed = r.passed;
        header = r.header;
        claims = r.claims;
        message = a.message;
        signature = a.signature;
      }
