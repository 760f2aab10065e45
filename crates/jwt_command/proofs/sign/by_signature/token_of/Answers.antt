use Rattle.std.proofs.Common.{◌∙◌, ⊎_elim, ap, inl, inr}
use Rattle.std.proofs.lemmas.Result.{err_from_is_err_and}
use Rattle.serde_json.specs.View.{view}
use Rattle.jwt_command.specs.BySignature.{given}
use Rattle.jwt_command.proofs.Attached.{not_issued}
use Rattle.jwt_command.proofs.sign.by_signature.token_of.Goals as goal

pub returns-in_err-token-clause-err : goal.returns-in_err-token-clause-err
returns-in_err-token-clause-err c =
    let p = err_from_is_err_and c.from_residual-in_err-token.result c.from_residual-in_err-token.ensures.1 in
    let header = c.args.contents.now.header in
    rw (p.1, p.2) (⊎_elim (λ m. inl m)
    (λ f. inr (not_issued header (view c.args.contents.now.claims) c.args.input.now c.args.file.now c.in_ok-signature.signature.items
    _ _ (c.new-given.ensures ∙ ap (given header c.args.input.now) c.deref.ensures.value) c.in_ok-signature.ensures.ok f))
    c.in_err-token.ensures.decided.refused)
