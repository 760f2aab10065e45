use Rattle.std.proofs.Common.{◌≡◌, ◌∷◌, ◌++◌, Some, None, inl, inr, refl, ◌∙◌}
use Rattle.std.proofs.lemmas.List.{append_assoc}
use Rattle.std.specs.String.{string_bytes}
use Rattle.std.proofs.lemmas.Result.{err_from_is_err_and}
use Rattle.serde_json.specs.Data.{null}
use Rattle.jsonwebtoken.specs.Issue.{Written, AreIssued, message_to_sign}
use Rattle.jsonwebtoken.specs.IssueCalls.{encoding}
use Rattle.jsonwebtoken.specs.Tests.{dot, Parts, message_of, text_of_parts}
use Rattle.jsonwebtoken.proofs.Exits.{or_memory, not_both}
use Rattle.jsonwebtoken.proofs.Issued.{read_back}
use Rattle.jsonwebtoken.proofs.encoding.encode_by_steps.Goals as goal

abbrev unwritten : Written
unwritten = record { header_value = null; claims_value = None }

pub returns-in_err-check_family : goal.returns-in_err-check_family
returns-in_err-check_family g c =
    let p = err_from_is_err_and c.from_residual.result c.from_residual.ensures.1 in
    rw (p.1, p.2) (or_memory (λ f. (unwritten, inl f)) c.in_err-check_family.ensures)

pub returns-in_err-signer : goal.returns-in_err-signer
returns-in_err-signer g c =
    let p = err_from_is_err_and c.from_residual-in_err-signer.result c.from_residual-in_err-signer.ensures.1 in
    rw (p.1, p.2) (or_memory (λ f. (unwritten, inr (c.in_ok-check_family.ensures, inl ((λ h. not_both _ _ f h), f))))
    c.in_err-signer.ensures.err)

pub returns-in_err-header_text : goal.returns-in_err-header_text
returns-in_err-header_text g c =
    let p = err_from_is_err_and c.from_residual-in_err-header_text.result c.from_residual-in_err-header_text.ensures.1 in
    rw (p.1, p.2) (or_memory (λ f. (
      unwritten,
      inr (
        c.in_ok-check_family.ensures,
        inr (c.in_ok-signer.ensures.made, inl ((λ d h. not_both _ _ h f.1), f.0)),
      ),
    )) c.in_err-header_text.ensures.err)

pub returns-in_err-claims_text : goal.returns-in_err-claims_text
returns-in_err-claims_text g c =
    let p = err_from_is_err_and c.from_residual-in_err-claims_text.result c.from_residual-in_err-claims_text.ensures.1 in
    let h = c.in_ok-header_text.ensures.ok in
    rw (p.1, p.2) (or_memory (λ f. (
      record unwritten { header_value = h.0 },
      inr (c.in_ok-check_family.ensures, inr (c.in_ok-signer.ensures.made, inr (h.1.0, inl (f.1, f.0)))),
    )) c.in_err-claims_text.ensures.err)

pub returns-in_err-signed : goal.returns-in_err-signed
returns-in_err-signed g c =
    let p = err_from_is_err_and c.from_residual-in_err-signed.result c.from_residual-in_err-signed.ensures.1 in
    let h = c.in_ok-header_text.ensures.ok in
    let v = c.in_ok-claims_text.ensures.ok in
    let t : Written = record { header_value = h.0; claims_value = Some v.0 } in
    let message : string_bytes c.in_ok-header_text.header_text ++ dot ∷ c.as_str.result.now ≡ message_to_sign t =
    rw (c.as_str.ensures.value, h.1.1.part.1, v.1.1.part.1) refl in
    let same = c.in_ok-signer.ensures.sign_refusal (message_to_sign t) in
    let no = rw (message, same) at c.in_err-signed.ensures.err in
    rw (p.1, p.2) (or_memory (λ f. (
      t,
      inr (
        c.in_ok-check_family.ensures,
        inr (
          c.in_ok-signer.ensures.made,
          inr (
            h.1.0,
            inr (
              (v.0, refl, v.1.0, v.1.1.compact.no_float),
              inl ((λ x. not_both _ _ f x), f),
            ),
          ),
        ),
      ),
    )) no)

pub returns : goal.returns
returns g c =
    let issue = encoding g.P.CryptoProvider g.T.Claims c.args.provider.now c.args.header.now c.args.claims.now c.args.key.now in
    let h = c.in_ok-header_text.ensures.ok in
    let v = c.in_ok-claims_text.ensures.ok in
    let s = c.in_ok-signed.ensures.signed in
    let t : Written = record { header_value = h.0; claims_value = Some v.0 } in
    let parts : Parts = record {
      header = string_bytes c.in_ok-header_text.header_text;
      payload = string_bytes c.in_ok-claims_text.claims_text;
      signature = string_bytes c.in_ok-signed.signed.signature;
    } in
    let message : message_of parts ≡ message_to_sign t = rw (h.1.1.part.1, v.1.1.part.1) refl in
    let same = c.in_ok-signer.ensures.sign_refusal (message_to_sign t) in
    let unrefused = rw (c.as_str.ensures.value, message, same) at c.in_ok-signed.ensures.ok in
    let signed = (c.in_ok-signer.ensures.signs (message_of parts) s.0).0 (rw c.as_str.ensures.value at s.1.1) in
    let text : string_bytes c.in_ok-token.token ≡ text_of_parts parts =
    c.in_ok-token.ensures.ok ∙ rw (c.as_str-2.ensures.value, c.in_ok-signed.ensures.message, c.as_str.ensures.value)
    (append_assoc parts.header (dot ∷ parts.payload) (dot ∷ parts.signature)) in
    let issued : AreIssued issue t parts = record {
      header = h.1.1.part.1;
      payload = v.1.1.part.1;
      bytes = s.0;
      signature = s.1.0;
      signed = signed;
    } in (
      t,
      (
        c.in_ok-check_family.ensures,
        (c.in_ok-signer.ensures.made, (h.1.0, ((v.0, refl, v.1.0, v.1.1.compact.no_float), (unrefused, tt)))),
      ),
      (
        (parts, text, issued),
        rw text (read_back issue (g.P.CryptoProvider.accepts c.args.provider.now) t parts
            c.in_ok-header_text.ensures.normal_form h.1.0 h.1.1 issued v.1.1),
      ),
    )
