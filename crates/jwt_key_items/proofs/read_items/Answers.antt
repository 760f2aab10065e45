use Rattle.jwt_key_items.proofs.ItemLemmas.{one_more}
use Rattle.jwt_key_items.proofs.read_items.Goals as goal

pub loop-value-preserved : goal.loop-value-preserved
loop-value-preserved c = rw c.in_ok-push.ensures.items
    (one_more c.args.values.now c.loop-value.value-index c.value-item.result c.loop-value.items.items c.in_ok-item_of.field-0
    c.loop-value-test.true c.loop-value.invariant (rw (← c.value-item.is) c.in_ok-item_of.ensures.ok))
