use Rattle.std.proofs.Common.{◌≡◌, ◌∷◌, ◌++◌, None, inl, inr, refl}
use Rattle.std.proofs.lemmas.Result.{err_from_is_err_and}
use Rattle.std.specs.String.{string_bytes}
use Rattle.serde_json.specs.Data.{null}
use Rattle.jsonwebtoken.specs.Issue.{Written, AreIssued, message_to_sign}
use Rattle.jsonwebtoken.specs.IssueCalls.{encoding_parts}
use Rattle.jsonwebtoken.specs.Tests.{dot, Parts, message_of}
use Rattle.jsonwebtoken.proofs.Exits.{or_memory, not_both}
use Rattle.jsonwebtoken.proofs.Issued.{read_back, is_payload_part}
use Rattle.jsonwebtoken.proofs.jws.encode_by_steps.Goals as goal

abbrev unwritten : Written
unwritten = record { header_value = null; claims_value = None }

pub returns-in_err-check_family : goal.returns-in_err-check_family
returns-in_err-check_family g c =
    let p = err_from_is_err_and c.from_residual.result c.from_residual.ensures.1 in
    rw (p.1, p.2) (or_memory (λ f. (unwritten, inl f)) c.in_err-check_family.ensures)

pub returns-in_err-protected : goal.returns-in_err-protected
returns-in_err-protected g c =
    let p = err_from_is_err_and c.from_residual-in_err-protected.result c.from_residual-in_err-protected.ensures.1 in
    rw (p.1, p.2) (or_memory (λ f.
    (unwritten, inr (c.in_ok-check_family.ensures, inl ((λ d h. not_both _ _ h f.1), f.0)))) c.in_err-protected.ensures.err)

pub returns-in_err-payload : goal.returns-in_err-payload
returns-in_err-payload g c =
    let p = err_from_is_err_and c.from_residual-in_err-payload.result c.from_residual-in_err-payload.ensures.1 in
    let h = c.in_ok-protected.ensures.ok in
    rw (p.1, p.2) (or_memory (λ f. (
      record unwritten { header_value = h.0 },
      inr (c.in_ok-check_family.ensures, inr (h.1.0, inl (f.1, f.0))),
    )) c.in_err-payload.ensures.err)

pub returns-in_err-signer : goal.returns-in_err-signer
returns-in_err-signer g c =
    let p = err_from_is_err_and c.from_residual-in_err-signer.result c.from_residual-in_err-signer.ensures.1 in
    let h = c.in_ok-protected.ensures.ok in
    let v = c.in_ok-payload.ensures.ok in
    let t : Written = record { header_value = h.0; claims_value = v.0 } in
    rw (p.1, p.2) (or_memory (λ f.
    (t, inr (c.in_ok-check_family.ensures, inr (h.1.0, inr (v.1.0, inl ((λ x. not_both _ _ f x), f))))))
    c.in_err-signer.ensures.err)

pub returns-in_err-signature : goal.returns-in_err-signature
returns-in_err-signature g c =
    let p = err_from_is_err_and c.from_residual-in_err-signature.result c.from_residual-in_err-signature.ensures.1 in
    let h = c.in_ok-protected.ensures.ok in
    let v = c.in_ok-payload.ensures.ok in
    let t : Written = record { header_value = h.0; claims_value = v.0 } in
    let message : c.as_str.result.now ++ dot ∷ c.as_str-2.result.now ≡ message_to_sign t =
    rw (c.as_str.ensures.value, c.as_str-2.ensures.value, h.1.1.part.1, is_payload_part v.0 _ v.1.1) refl in
    let same = c.in_ok-signer.ensures.sign_refusal (message_to_sign t) in
    let no = rw (message, same) at c.in_err-signature.ensures.err in
    rw (p.1, p.2) (or_memory (λ f. (
      t,
      inr (
        c.in_ok-check_family.ensures,
        inr (h.1.0, inr (v.1.0, inr (c.in_ok-signer.ensures.made, inl ((λ x. not_both _ _ f x), f)))),
      ),
    )) no)

pub returns : goal.returns
returns g c =
    let issue = encoding_parts g.P.CryptoProvider g.T.Claims c.args.provider.now c.args.header.now c.args.claims
    c.args.key.now in
    let h = c.in_ok-protected.ensures.ok in
    let v = c.in_ok-payload.ensures.ok in
    let s = c.in_ok-signature.ensures.signed in
    let t : Written = record { header_value = h.0; claims_value = v.0 } in
    let payload = is_payload_part v.0 _ v.1.1 in
    let parts : Parts = record {
      header = string_bytes c.in_ok-protected.protected;
      payload = string_bytes c.in_ok-payload.payload;
      signature = string_bytes c.in_ok-signature.signature;
    } in
    let message : message_of parts ≡ message_to_sign t = rw (h.1.1.part.1, payload) refl in
    let same = c.in_ok-signer.ensures.sign_refusal (message_to_sign t) in
    let unrefused = rw (c.as_str.ensures.value, c.as_str-2.ensures.value, message, same) at c.in_ok-signature.ensures.ok in
    let signed = (c.in_ok-signer.ensures.signs (message_of parts) s.0).0 (rw (c.as_str.ensures.value, c.as_str-2.ensures.value) at s.1.1) in
    let issued : AreIssued issue t parts = record {
      header = h.1.1.part.1;
      payload = payload;
      bytes = s.0;
      signature = s.1.0;
      signed = signed;
    } in (
      t,
      (c.in_ok-check_family.ensures, (h.1.0, (v.1.0, (c.in_ok-signer.ensures.made, (unrefused, tt))))),
      (
        issued,
        read_back issue (g.P.CryptoProvider.accepts c.args.provider.now) t parts
            c.in_ok-protected.ensures.normal_form h.1.0 h.1.1 issued v.1.1,
      ),
    )
