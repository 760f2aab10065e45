use Rattle.std.proofs.Common.{◌≡◌, ⊎_elim, inl}
use Rattle.std.proofs.lemmas.Result.{err_from_is_err_and}
use Rattle.jsonwebtoken.proofs.UniqueParts.{one_way}
use Rattle.jsonwebtoken.specs.Tests.{Compact}
use Rattle.jwt_c_calls.proofs.by_signature.token_algorithm.Goals as goal

pub returns-in_err-header-clause-err : goal.returns-in_err-header-clause-err
returns-in_err-header-clause-err c a h =
    let p = err_from_is_err_and c.from_residual.result c.from_residual.ensures.1 in
    rw (p.1, p.2) (c.in_err-header.ensures.exact h.contents (h.parts, (h.header, tt)))

pub returns-in_err-payload-clause-err : goal.returns-in_err-payload-clause-err
returns-in_err-payload-clause-err c a h =
    let p = err_from_is_err_and c.from_residual-in_err-payload.result c.from_residual-in_err-payload.ensures.1 in
    rw (p.1, p.2) (c.in_err-payload.ensures.exact h.contents (h.parts, (h.payload, tt)))

pub returns-in_err-algorithm-clause-err : goal.returns-in_err-algorithm-clause-err
returns-in_err-algorithm-clause-err c a h =
    let p = err_from_is_err_and c.from_residual-in_err-algorithm.result c.from_residual-in_err-algorithm.ensures.1 in
    let same : h.contents.header_bytes ≡ c.in_ok-header.header.items = c.in_ok-header.ensures.exact h.contents (h.parts, (h.header, tt)) in
    let refused = rw c.as_slice.ensures.value at c.in_err-algorithm.ensures.err in
    rw (p.1, p.2) (⊎_elim (λ m. m) (λ none. absurd (none.1 h.names.0 (rw same at h.names.1))) refused)

pub returns-in_err-check_payload-clause-err : goal.returns-in_err-check_payload-clause-err
returns-in_err-check_payload-clause-err c a h =
    let p = err_from_is_err_and c.from_residual-in_err-check_payload.result c.from_residual-in_err-check_payload.ensures.1 in
    let same : h.contents.payload_bytes ≡ c.in_ok-payload.payload.items = c.in_ok-payload.ensures.exact h.contents (h.parts, (h.payload, tt)) in
    let refused = rw c.as_slice-2.ensures.value at c.in_err-check_payload.ensures.err in
    rw (p.1, p.2) (⊎_elim (λ m. m) (λ none. absurd (none.1 h.claims (rw same at h.reads_payload))) refused)

pub returns-clause-ok : goal.returns-clause-ok
returns-clause-ok c =
    let t = c.in_ok-header.ensures.accepted in let s = c.in_ok-payload.ensures.accepted in
    let parts : t.0.parts ≡ s.0.parts = one_way (Compact c.args.token.now) t.0.parts s.0.parts t.1.0 s.1.0 in
    record {
      contents = record t.0 { header_bytes = c.in_ok-header.header.items; payload_bytes = c.in_ok-payload.payload.items };
      parts = t.1.0;
      header = rw t.2 at t.1.1.0;
      payload = rw parts (rw s.2 at s.1.1.0);
      names = rw c.as_slice.ensures.value at c.in_ok-algorithm.ensures.ok;
      claims = c.in_ok-check_payload.ensures.ok.0;
      reads_payload = rw c.as_slice-2.ensures.value at c.in_ok-check_payload.ensures.ok.1;
    }
