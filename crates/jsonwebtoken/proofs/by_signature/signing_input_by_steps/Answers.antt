use Rattle.std.proofs.Common.{Some, None, inl, inr, refl, ◌∙◌}
use Rattle.std.proofs.lemmas.Result.{err_from_is_err_and}
use Rattle.serde_json.specs.Data.{null}
use Rattle.jsonwebtoken.specs.Issue.{Written}
use Rattle.jsonwebtoken.proofs.Exits.{or_memory, not_both}
use Rattle.jsonwebtoken.proofs.by_signature.signing_input_by_steps.Goals as goal

abbrev unwritten : Written
unwritten = record { header_value = null; claims_value = None }

pub returns-in_err-header_text : goal.returns-in_err-header_text
returns-in_err-header_text g c =
    let p = err_from_is_err_and c.from_residual.result c.from_residual.ensures.1 in
    rw (p.1, p.2) (or_memory (λ f. (unwritten, inl ((λ d h. not_both _ _ h f.1), f.0))) c.in_err-header_text.ensures.err)

pub returns-in_err-claims_text : goal.returns-in_err-claims_text
returns-in_err-claims_text g c =
    let p = err_from_is_err_and c.from_residual-in_err-claims_text.result c.from_residual-in_err-claims_text.ensures.1 in
    let h = c.in_ok-header_text.ensures.ok in
    rw (p.1, p.2) (or_memory (λ f. (record unwritten { header_value = h.0 }, inr (h.1.0, inl (f.1, f.0))))
    c.in_err-claims_text.ensures.err)

pub returns : goal.returns
returns g c =
    let h = c.in_ok-header_text.ensures.ok in
    let v = c.in_ok-claims_text.ensures.ok in
    let t : Written = record { header_value = h.0; claims_value = Some v.0 } in (
      t,
      (h.1.0, ((v.0, refl, v.1.0, v.1.1.compact.no_float), tt)),
      record {
        algorithm = refl;
        message = c.in_ok-message.ensures.ok ∙ rw (c.as_str.ensures.value, h.1.1.part.1, v.1.1.part.1) refl;
      },
    )
