use Rattle.std.proofs.Common.{⊎_elim, inl, inr, string_bytes, subst, sym}
use Rattle.std.proofs.lemmas.Result.{err_from_is_err_and}
use Rattle.jwt_base.specs.KindOf.{kind_of}
use Rattle.jwt_c_calls.specs.Issued.{IsSignedBy, IsUnsignedBy}
use Rattle.jwt_c_calls.proofs.ReadBack.{read_back}
use Rattle.jwt_c_calls.proofs.issued.sign_answer.Goals as goal

pub returns-in_err-signature-clause-err : goal.returns-in_err-signature-clause-err
returns-in_err-signature-clause-err c =
    let h = c.in_ok-input.ensures.algorithm in let e = c.in_ok-input.ensures.ok in
    let p = err_from_is_err_and c.from_residual-in_err-signature.result c.from_residual-in_err-signature.ensures.1 in
    rw (p.1, p.2) (⊎_elim (λ m. inl m) (λ f. inr (
      (h.0, e.0.1),
      (h.1, e.1.1),
      subst (λ a. IsUnsignedBy c.args.jwk.now a (kind_of c.in_err-signature.field-0.0)) (sym h.2) f,
    )) c.in_err-signature.ensures.err)

pub returns-clause-ok : goal.returns-clause-ok
returns-clause-ok c =
    let h = c.in_ok-input.ensures.algorithm in let e = c.in_ok-input.ensures.ok in
    let message = string_bytes c.in_ok-input.input.message in let signature = c.in_ok-signature.signature.items in
    let signed = rw c.as_bytes.ensures.value at c.in_ok-signature.ensures.ok in
    let token = rw (c.as_bytes-2.ensures.value, c.as_slice.ensures.value) at c.in_ok-token_with.ensures.ok in (
      (h.0, e.0.1),
      (h.1, e.1.1),
      (
        message,
        signature,
        e.2,
        subst (λ a. IsSignedBy c.args.jwk.now a message signature) (sym h.2) signed,
        token,
        read_back c.args.header.now c.args.payload.now message signature c.in_ok-token_with.field-0.items e.2 token h.0 e.0.1 h.1 e.1.1,
      ),
    )
