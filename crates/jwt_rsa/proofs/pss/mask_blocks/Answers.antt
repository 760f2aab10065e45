use Rattle.std.proofs.Common.{◌≡◌, ◌++◌, refl, ap, ◌∙◌}
use Rattle.std.specs.Int.{w32, to_be_bytes}
use Rattle.jwt_rsa.specs.Pss.{mask_blocks}
use Rattle.jwt_rsa.proofs.Masks.{blocks_more}
use Rattle.jwt_rsa.proofs.pss.mask_blocks.Goals as goal

pub loop-counter-init : goal.loop-counter-init
unfolding mask_blocks
loop-counter-init c = c.new-blocks.ensures.items

pub loop-counter-preserved : goal.loop-counter-preserved
loop-counter-preserved c =
    let input : c.extend_from_slice.new.self.items ≡ c.args.seed.now ++ to_be_bytes w32 c.loop-counter.counter =
    c.in_ok-extend_from_slice.ensures.items ∙ rw (c.in_ok-input.ensures.items, c.to_be_bytes.ensures) refl in
    c.in_ok-extend_from_slice-2.ensures.items ∙ ap (λ z. c.loop-counter.blocks.items ++ z) c.deref-in-loop-counter.ensures.value
    ∙ blocks_more c.args.hash c.args.seed.now c.loop-counter.counter c.deref.result.now c.in_ok-block.block.items
    c.loop-counter.blocks.items
    (c.deref.ensures.value ∙ input) c.in_ok-block.ensures.ok c.loop-counter.invariant
