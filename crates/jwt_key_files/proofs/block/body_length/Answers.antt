use Rattle.std.proofs.Common.{ℕ, ◌≡◌}
use Rattle.std.specs.Prelude.{slice_index}
use borrow.Author.Count.{below_more}
use Rattle.jwt_key_files.proofs.block.body_length.Goals as goal

pub loop-place-preserved : goal.loop-place-preserved
loop-place-preserved c =
    below_more (λ (k : ℕ). slice_index c.args.text.now k ≡ 45 → ⊥) c.loop-place.place c.loop-place.invariant
    c.if-text-place-eq45.false
