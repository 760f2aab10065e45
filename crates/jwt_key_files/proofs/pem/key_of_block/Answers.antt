use Rattle.std.proofs.Common.{inl, inr, List, ℕ, sym, subst}
use Rattle.std.specs.Prelude.{codes}
use Rattle.std.proofs.lemmas.Result.{err_from_is_err_and}
use Rattle.jwt_key_files.specs.Pem.{IsBlock}
use Rattle.jwt_key_files.specs.PublicKeys.{IsRsaKey}
use Rattle.jwt_key_files.proofs.PemKeys.{refused_public, refused_rsa_block, refused_other, moved_refusal, moved_key}
use Rattle.jwt_key_files.proofs.pem.key_of_block.Goals as goal

pub returns-in_err-key-clause-err : goal.returns-in_err-key-clause-err
returns-in_err-key-clause-err c =
    let p = err_from_is_err_and c.from_residual-in_err-key.result c.from_residual-in_err-key.ensures.1 in
    let holds : IsBlock (codes "PUBLIC KEY") c.args.block.now c.in-Some.der.items = rw c.in-Some.is at c.in_ok-der.ensures.ok in
    rw (p.1, p.2) (elim c.in_err-key.ensures.err [
      | inl m ↦ inl m
      | inr w ↦ inr (refused_public _ _ _ holds (moved_refusal _ _ _ c.as_slice.ensures.value w))
    ])

pub returns-in-Some-clause-ok : goal.returns-in-Some-clause-ok
returns-in-Some-clause-ok c =
    let holds : IsBlock (codes "PUBLIC KEY") c.args.block.now c.in-Some.der.items = rw c.in-Some.is at c.in_ok-der.ensures.ok in
    (c.in-Some.der.items, inl (holds, moved_key _ _ _ c.as_slice.ensures.value c.in_ok-key.ensures.ok))

pub returns-in_err-key-2-clause-err : goal.returns-in_err-key-2-clause-err
returns-in_err-key-2-clause-err c =
    let p = err_from_is_err_and c.from_residual-in_err-key-2.result c.from_residual-in_err-key-2.ensures.1 in
    let holds : IsBlock (codes "RSA PUBLIC KEY") c.args.block.now c.in-Some-2.der.items =
    rw c.in-Some-2.is at c.in_ok-der-2.ensures.ok in
    rw (p.1, p.2) (elim c.in_err-key-2.ensures.err [
      | inl m ↦ inl m
      | inr w ↦ inr (refused_rsa_block _ _ _ holds w.0
          (λ k r. w.1 k (subst (λ (s : List ℕ). IsRsaKey s k) (sym c.as_slice-in-Some-2.ensures.value) r)))
    ])

pub returns-clause-err : goal.returns-clause-err
returns-clause-err c =
    inr (refused_other _ _ c.invalid_key.ensures (rw c.in_default.is at c.in_ok-der.ensures.ok)
    (rw c.in_default-2.is at c.in_ok-der-2.ensures.ok)
    (λ p. cc (c.names_private.ensures.1 p, c.if-names_private.false)))
