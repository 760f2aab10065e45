-- The claims of a token whose signature the caller has checked.
use Rattle.std.proofs.Common.{◌≡◌, ◌≤◌, ℕ, List, None, Some, inl, inr, refl, subst}
use Rattle.serde_json.specs.Data.{Data}
use Rattle.jwt_base.specs.JsonText.{ReadsText}
use Rattle.jwt_crypto.specs.Verdict.{Verdict}
use Rattle.jwt_further.specs.Further.{further_fault}
use Rattle.jwt_header.specs.declared.header.Header.{Header}
use Rattle.jsonwebtoken.specs.Order.{Passes}
use Rattle.jsonwebtoken.specs.Tests.{Contents, header_call, payload_bytes_order, token_tests}
use Rattle.jsonwebtoken.specs.Vouched.{IsVouched, unasked_order}
use Rattle.jsonwebtoken.specs.declared.refusal.Test.TheVariants.{HasThreeParts, PayloadIsBase64url, PayloadIsJson}
use Rattle.jsonwebtoken.proofs.EachTest.{met}
use Rattle.jwt_c_calls.specs.Asked.{AskedOptions, ReadsAsked}
use Rattle.jwt_c_calls.specs.Calls.{Answer, Returns, Refuses, InputError, Breaks, AnswersVerdict, AnswersVerdictOf, IsCheckedText}
use Rattle.jwt_c_calls.specs.Calls.{verdict_call}

module _ (o : AskedOptions) (token : List ℕ) (v : Verdict) (time : ℕ) where
  -- the text is that of contents that the verdict vouches for
  pub checked : (claims : Data) (header : Header) → ((t : Contents) × IsVouched (verdict_call token v time o.usual) v t
      × ((t.header ≡ header) × (claims ≡ t.payload_value))) → (a : Answer) → IsCheckedText token claims o time a
      → AnswersVerdictOf o token v time a
  checked claims header found (Returns text) h =
      let t = found.0 in let call = verdict_call token v time o.usual in let same : claims ≡ t.payload_value = found.2.1 in
      let json = met call unasked_order t found.1.tests PayloadIsJson refl in
      let part : Passes (token_tests (header_call token)) payload_bytes_order t = (
        met call unasked_order t found.1.tests HasThreeParts refl,
        (met call unasked_order t found.1.tests PayloadIsBase64url refl, tt),
      ) in
      let shown = h.1 t part (rw same json) in
      (tt, tt, (t, (found.1, rw same at h.0), rw same at shown))
  checked claims header found (Refuses k) h = inl h
  checked claims header found (InputError i) h = absurd h
  checked claims header found (Breaks f) h = (tt, tt, (found.0, found.1, rw found.2.1 at h))

  -- with options that the text describes
  pub of_read : (text : List ℕ) → ReadsText ReadsAsked text o → (a : Answer) → AnswersVerdictOf o token v time a
      → AnswersVerdict text token v time a
  of_read text reads (Returns bytes) h = (o, reads, h.2)
  of_read text reads (Refuses k) (inl m) = inl m
  of_read text reads (Refuses k) (inr h) = inr (o, reads, h.2)
  of_read text reads (InputError i) h = absurd h
  of_read text reads (Breaks f) h = (o, reads, h.2)
