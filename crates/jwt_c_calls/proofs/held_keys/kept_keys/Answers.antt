use Rattle.std.proofs.Common.{◌≡◌, ◌∙◌, ap, sym, get_or, Some, None}
use Rattle.jwt_key_items.specs.KeyItems.{kept_key}
use Rattle.jwt_c_calls.proofs.HeldKeys.{one_kept, one_skipped}
use Rattle.jwt_c_calls.proofs.held_keys.kept_keys.Goals.{in-Some+in_ok-clone+in_ok-push, in_default}
use Rattle.jwt_c_calls.proofs.held_keys.kept_keys.Goals as goal

pub loop-item-preserved : goal.loop-item-preserved
loop-item-preserved c = elim c.match-kept.branch [
  | in-Some+in_ok-clone+in_ok-push w ↦
      let kept = ap kept_key (sym c.item-item.is) ∙ w.in-Some.ensures in
      let more = one_kept c.args.items.now c.loop-item.item-index c.item-item.result c.loop-item-test.true
      w.in-Some.key.now kept in
      let pushed = w.in_ok-push.ensures.items in
      let is = w.keys-is in
      let copy = w.in_ok-clone.ensures.ok in
      let before = c.loop-item.invariant in
      cc
  | in_default w ↦
      let none = ap kept_key (sym c.item-item.is) ∙ w.in_default.ensures in
      let skipped = one_skipped c.args.items.now c.loop-item.item-index c.item-item.result
      c.loop-item-test.true none in
      let is = w.keys-is in
      let before = c.loop-item.invariant in
      cc
]
