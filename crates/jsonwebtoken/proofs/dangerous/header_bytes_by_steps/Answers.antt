use Rattle.std.proofs.Common.{◌≡◌, inl, inr, refl}
use Rattle.jsonwebtoken.specs.private_clauses.Steps.{no_contents, parts_in, whole}
use Rattle.jsonwebtoken.specs.Tests.{header_call, header_bytes_order}
use Rattle.jsonwebtoken.proofs.Exits.{exit}
use Rattle.jsonwebtoken.proofs.dangerous.header_bytes_by_steps.Goals as goal

pub returns-in_err-parts : goal.returns-in_err-parts
returns-in_err-parts c =
    exit (header_call c.args.token.now) header_bytes_order whole (λ t b. t.header_bytes ≡ b.items) _ _ c.from_residual.ensures.1
    (λ f. (no_contents, inl f)) c.in_err-parts.ensures

pub returns-in_err-bytes : goal.returns-in_err-bytes
returns-in_err-bytes c =
    exit (header_call c.args.token.now) header_bytes_order whole (λ t b. t.header_bytes ≡ b.items) _ _
    c.from_residual-in_err-bytes.ensures.1
    (λ f. (record no_contents { parts = parts_in c.in_ok-parts.parts }, inr (c.in_ok-parts.ensures, inl f)))
    c.in_err-bytes.ensures

pub returns : goal.returns
returns c = (
  record no_contents { parts = parts_in c.in_ok-parts.parts; header_bytes = c.in_ok-bytes.bytes.items },
  (c.in_ok-parts.ensures, (c.in_ok-bytes.ensures, tt)),
  refl,
)
