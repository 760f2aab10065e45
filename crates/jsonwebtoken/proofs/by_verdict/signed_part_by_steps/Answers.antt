use Rattle.std.proofs.Common.{[], ◌∷◌, inl, refl, sym, ◌∙◌}
use Rattle.jsonwebtoken.specs.Calls.{HasSigned}
use Rattle.jsonwebtoken.specs.private_clauses.Steps.{no_contents, parts_in, whole}
use Rattle.jsonwebtoken.specs.Tests.{HasThreeParts, SignatureIsBase64url, header_order, header_tests, signed_order, header_call}
use Rattle.jsonwebtoken.proofs.EachTest.{join}
use Rattle.jsonwebtoken.proofs.Exits.{exit, last_of, stop}
use Rattle.jsonwebtoken.proofs.by_verdict.signed_part_by_steps.Goals as goal

pub returns-in_err-parts : goal.returns-in_err-parts
returns-in_err-parts c =
    let call = header_call c.args.token.now in
    exit call signed_order whole (HasSigned call) _ _ c.from_residual.ensures.1 (λ f. (no_contents, inl f))
    c.in_err-parts.ensures

pub returns-in_err-header : goal.returns-in_err-header
returns-in_err-header c =
    let call = header_call c.args.token.now in
    exit call signed_order whole (HasSigned call) _ _ c.from_residual-in_err-header.ensures.1
    (λ f. stop call signed_order (HasThreeParts ∷ []) header_tests (record f.0 { parts = parts_in c.in_ok-parts.parts })
    _ _ (c.in_ok-parts.ensures, tt) f.1) c.in_err-header.ensures

pub returns : goal.returns
returns c =
    let call = header_call c.args.token.now in
    let h = c.in_ok-header.ensures in
    let found = record h.0 { parts = parts_in c.in_ok-parts.parts } in
    last_of call signed_order whole (HasSigned call) _ _ (λ p. p.signature) c.read_part-signature.result c.with_signature.result
    c.with_signature.ensures.ok c.with_signature.ensures.err c.read_part-signature.ensures
    (λ p w b. (
      record found { signature_bytes = p.signature.items },
      join call header_order (SignatureIsBase64url ∷ []) (record found { signature_bytes = p.signature.items })
          (c.in_ok-parts.ensures, h.1) (b, tt),
      (h.2 ∙ w.0, sym c.in_ok-parts.parts.joined ∙ w.1, refl),
    ))
    (λ t k f. stop call signed_order header_order (SignatureIsBase64url ∷ []) found _ _ (c.in_ok-parts.ensures, h.1) (inl f))
