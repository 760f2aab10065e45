use Rattle.std.proofs.Common.{◌≡◌, ◌∙◌, sym, refl}
use Rattle.jsonwebtoken.specs.Tests.{header_call, header_bytes_order, token_tests}
use Rattle.jsonwebtoken.proofs.EachTest.{decides, same_bytes}
use Rattle.jsonwebtoken.proofs.Exits.{without}
use Rattle.jsonwebtoken.proofs.dangerous.insecure_header_bytes.Goals as goal

pub returns : goal.returns
returns c =
    let call = header_call c.args.token.now in
    let decided = decides call header_bytes_order refl (λ t b. t.header_bytes ≡ b.items) c.header_bytes_by_steps.result
    c.header_bytes_by_steps.ensures
    (λ s t y p q e. sym (same_bytes call header_bytes_order s t p q refl) ∙ e) in
    without (token_tests call) header_bytes_order (λ t b. t.header_bytes ≡ b.items) c.header_bytes_by_steps.result _
    c.without_test.ensures decided
