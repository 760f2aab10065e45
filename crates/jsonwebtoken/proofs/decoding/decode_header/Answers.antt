use Rattle.std.proofs.Common.{ℕ, List, [], ◌∷◌, ◌∙◌, inl, refl, sym, Result, Ok, Err}
use Rattle.std.proofs.lemmas.Result.{err_from_is_err_and}
use Rattle.jwt_base.specs.KindOf.{kind_of}
use Rattle.jwt_base.specs.declared.errors.Error.{Error}
use Rattle.jwt_header.specs.declared.header.Header.{Header}
use Rattle.jsonwebtoken.specs.Calls.{HasHeader}
use Rattle.jsonwebtoken.specs.Order.{Decides}
use Rattle.jsonwebtoken.specs.declared.refusal.Test.{Test}
use Rattle.jsonwebtoken.specs.private_clauses.Refused.{tested}
use Rattle.jsonwebtoken.specs.Steps.{Step}
use Rattle.jsonwebtoken.specs.private_clauses.Steps.{ShowsHeader, bare, no_contents, parts_in, whole, with_header_part}
use Rattle.jsonwebtoken.specs.Tests.{Parts, HasParts, HasThreeParts, header_order, header_tests, header_call, token_tests}
use Rattle.jsonwebtoken.proofs.EachTest.{decides, same_header}
use Rattle.jsonwebtoken.proofs.Exits.{stop, or_memory, unnoted}
use Rattle.jsonwebtoken.proofs.decoding.decode_header.Goals as goal

module _ (token : List ℕ) where
  -- the decision that a step stands for
  decided : (failed : Test) (read : Result Header Error) → Step (header_call token) header_order whole
      (HasHeader (header_call token)) (tested failed read)
      → Decides (token_tests (header_call token)) header_order (HasHeader (header_call token)) read
  decided failed read step = unnoted (token_tests (header_call token)) header_order (HasHeader (header_call token)) failed read
      (decides (header_call token) header_order refl (HasHeader (header_call token)) (tested failed read) step
      (λ s t y p q e. sym (same_header (header_call token) header_order s t p q refl) ∙ e))

  -- the header of these parts, after the test of the parts
  header_of_parts : (parts : Parts) → HasParts (header_call token).token parts → (failed : Test) (read : Result Header Error)
      → Step bare header_tests (with_header_part parts.header) ShowsHeader (tested failed read)
      → Step (header_call token) header_order whole (HasHeader (header_call token)) (tested failed read)
  header_of_parts parts has failed (Ok header) h = (record h.0 { parts = parts }, (has, h.1), h.2)
  header_of_parts parts has failed (Err e) refused =
      or_memory (λ f. stop (header_call token) header_order (HasThreeParts ∷ []) header_tests
      (record f.0 { parts = parts }) failed (kind_of e) (has, tt) f.1) refused

pub returns-in-Err : goal.returns-in-Err
returns-in-Err c = decided c.args.token.now c.in-Err.refusal.test (Err c.in-Err.refusal.error)
    (or_memory (λ f. (no_contents, inl f)) c.in-Err.ensures)

pub returns-in_err-header : goal.returns-in_err-header
returns-in_err-header c =
    let p = err_from_is_err_and c.from_residual.result c.from_residual.ensures.1 in
    rw (p.1, p.2) (decided c.args.token.now c.read_header_noting.new.failed (Err _)
    (header_of_parts c.args.token.now (parts_in c.in-Ok.parts) c.in-Ok.ensures _ (Err _) c.in_err-header.ensures))

pub returns : goal.returns
returns c =
    decided c.args.token.now c.read_header_noting.new.failed (Ok c.in_ok-header.header)
    (header_of_parts c.args.token.now (parts_in c.in-Ok.parts) c.in-Ok.ensures c.read_header_noting.new.failed
    (Ok c.in_ok-header.header) c.in_ok-header.ensures)
