use Rattle.std.proofs.Common.{refl, sym, ◌∙◌, ap}
use Rattle.jsonwebtoken.specs.Calls.{HasSigned}
use Rattle.jsonwebtoken.specs.Tests.{signed_order, header_call, message_of, token_tests}
use Rattle.jsonwebtoken.proofs.EachTest.{decides, same_header, same_parts, same_signature}
use Rattle.jsonwebtoken.proofs.Exits.{without}
use Rattle.jsonwebtoken.proofs.by_verdict.signed_part.Goals as goal

pub returns : goal.returns
returns c =
    let call = header_call c.args.token.now in
    let decided = decides call signed_order refl (HasSigned call) c.signed_part_by_steps.result
    c.signed_part_by_steps.ensures (λ s t y p q e. (
      sym (same_header call signed_order s t p q refl) ∙ e.0,
      sym (ap message_of (same_parts call signed_order s t p q refl)) ∙ e.1,
      sym (same_signature call signed_order s t p q refl) ∙ e.2,
    )) in
    without (token_tests call) signed_order (HasSigned call) c.signed_part_by_steps.result _ c.without_test.ensures decided
