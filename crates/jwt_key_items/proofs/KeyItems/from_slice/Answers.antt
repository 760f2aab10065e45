use Rattle.std.proofs.lemmas.Result.{err_from_is_err_and, IfErr-weaker, IfOk-weaker}
use Rattle.jwt_base.proofs.Readings.{no_json, no_value}
use Rattle.jwt_key_items.specs.KeyItems.{ReadsItems}
use Rattle.jwt_key_items.proofs.ItemLemmas.{text_read}
use Rattle.jwt_key_items.proofs.KeyItems.from_slice.Goals as goal

pub returns-in_err-value-clause-err : goal.returns-in_err-value-clause-err
returns-in_err-value-clause-err c =
    let p = err_from_is_err_and c.from_residual.result c.from_residual.ensures.1 in
    rw (p.1, p.2) (no_json ReadsItems _ _ c.in_err-value.ensures.err)

pub returns-clause-err : goal.returns-clause-err
returns-clause-err c = IfErr-weaker c.from_value.result _ _ (λ e f. no_value ReadsItems _ e _ c.in_ok-value.ensures.ok f)
    c.from_value.ensures.err

pub returns-clause-whole : goal.returns-clause-whole
returns-clause-whole c = IfOk-weaker c.from_value.result _ _
    (λ k r. text_read c.args.text.now k.items.items (_, (c.in_ok-value.ensures.ok, r)))
    c.from_value.ensures.ok
