use Rattle.std.proofs.Common.{subst}
use Rattle.std.proofs.lemmas.Result.{err_from_is_err_and}
use Rattle.jwt_crypto.specs.GivenSignature.{HasLength}
use Rattle.jwt_c_calls.proofs.ReadBack.{has_parts, message_of_parts, one_algorithm, read_back}
use Rattle.jwt_c_calls.proofs.by_signature.attached_or_error.Goals as goal

pub returns-in_err-algorithm-clause-err : goal.returns-in_err-algorithm-clause-err
returns-in_err-algorithm-clause-err c a m =
    let p = err_from_is_err_and c.from_residual-in_err-algorithm.result c.from_residual-in_err-algorithm.ensures.1 in
    let parts = has_parts m.header m.payload c.args.message.now c.args.signature.now c.in_ok-token.token.items m.message_is
    c.in_ok-token.ensures.ok a m.as_header m.as_claims m.reads_header m.names m.reads_payload in
    rw (p.1, p.2) (c.in_err-algorithm.ensures.err a (rw c.as_slice.ensures.value parts))

pub returns-in_err-check_length-clause-err : goal.returns-in_err-check_length-clause-err
returns-in_err-check_length-clause-err c a m =
    let p = err_from_is_err_and c.from_residual-in_err-check_length.result c.from_residual-in_err-check_length.ensures.1 in
    let parts = has_parts m.header m.payload c.args.message.now c.args.signature.now c.in_ok-token.token.items m.message_is
    c.in_ok-token.ensures.ok a m.as_header m.as_claims m.reads_header m.names m.reads_payload in
    let own = rw c.as_slice.ensures.value at c.in_ok-algorithm.ensures.ok in
    let same = one_algorithm c.in_ok-token.token.items a c.in_ok-algorithm.algorithm parts own in
    rw (p.1, p.2) (c.in_err-check_length.ensures.err (subst (λ x. HasLength x c.args.signature.now) same m.length))

pub returns-clause-ok : goal.returns-clause-ok
returns-clause-ok c =
    let h = rw c.as_slice.ensures.value at c.in_ok-algorithm.ensures.ok in
    let is = message_of_parts c.args.message.now c.args.signature.now c.in_ok-token.token.items c.in_ok-algorithm.algorithm
    c.in_ok-token.ensures.ok h in (
      record {
        header = h.contents.header_bytes;
        payload = h.contents.payload_bytes;
        as_header = h.names.0;
        as_claims = h.claims;
        reads_header = h.names.1;
        reads_payload = h.reads_payload;
        names = h.names.2;
        message_is = is;
        length = c.in_ok-check_length.ensures.ok;
      },
      c.in_ok-token.ensures.ok,
      read_back h.contents.header_bytes h.contents.payload_bytes c.args.message.now c.args.signature.now c.in_ok-token.token.items is
          c.in_ok-token.ensures.ok h.names.0 h.claims h.names.1 h.reads_payload,
    )
