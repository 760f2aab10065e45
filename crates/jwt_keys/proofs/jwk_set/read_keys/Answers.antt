use Rattle.std.proofs.lemmas.Result.{err_from_is_err_and}
use Rattle.jwt_keys.proofs.SetLemmas.{one_more, one_less, unreadable-list}
use Rattle.jwt_keys.proofs.jwk_set.read_keys.Goals as goal

pub loop-item-preserved : goal.loop-item-preserved
loop-item-preserved c =
    let vs = c.args.items.now in
    let i = c.loop-item.item-index in
    record {
      so_far = rw c.in_ok-push.ensures.items
          (one_more vs i c.item-item.result c.loop-item.keys.items c.in_ok-from_value.field-0 c.loop-item-test.true
          c.loop-item.invariant.so_far (rw (← c.item-item.is) c.in_ok-from_value.ensures.ok));
      left = λ ks r. one_less vs i c.item-item.result c.loop-item-test.true (c.loop-item.invariant.left ks r);
    }

pub returns-in_err-from_value-clause-err : goal.returns-in_err-from_value-clause-err
returns-in_err-from_value-clause-err c =
    let vs = c.args.items.now in
    let i = c.loop-item.item-index in
    let p = err_from_is_err_and c.from_residual.result c.from_residual.ensures.1 in
    rw (p.1, p.2) (unreadable-list vs i c.item-item.result _ c.loop-item-test.true c.loop-item.invariant.left
    (rw (← c.item-item.is) c.in_err-from_value.ensures.err))
