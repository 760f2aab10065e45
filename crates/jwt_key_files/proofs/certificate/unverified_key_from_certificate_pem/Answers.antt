use Rattle.std.proofs.Common.{inl, inr}
use Rattle.std.proofs.lemmas.Result.{err_from_is_err_and}
use Rattle.jwt_key_files.specs.Certificates.{HoldsCertificate}
use Rattle.jwt_key_files.proofs.Certificates.{one_certified_pem, moved_certificate, moved_refusal}
use Rattle.jwt_key_files.proofs.certificate.unverified_key_from_certificate_pem.Goals as goal

pub returns-in_err-key-clause-err : goal.returns-in_err-key-clause-err
returns-in_err-key-clause-err c =
    let p = err_from_is_err_and c.from_residual-in_err-key.result c.from_residual-in_err-key.ensures.1 in
    let holds : HoldsCertificate c.args.pem.now c.in-Some.der.items = rw c.in-Some.is at c.in_ok-der.ensures.ok in
    rw (p.1, p.2) (elim c.in_err-key.ensures.err [
      | inl m ↦ inl m
      | inr w ↦ inr (inl (c.in-Some.der.items, (holds, moved_refusal _ _ _ c.as_slice.ensures.value w)))
    ])

pub returns-clause-only : goal.returns-clause-only
returns-clause-only c =
    let holds : HoldsCertificate c.args.pem.now c.in-Some.der.items = rw c.in-Some.is at c.in_ok-der.ensures.ok in
    λ k p. one_certified_pem _ k _ p (
      c.in-Some.der.items,
      (holds, moved_certificate _ _ _ c.as_slice.ensures.value c.in_ok-key.ensures.ok),
    )
