use Rattle.std.proofs.Common.{ℕ, List, arith}
use borrow.Author.Count.{below_more}
use Rattle.jwt_key_files.specs.Pem.{Begins}
use Rattle.jwt_key_files.proofs.Texts.{place_in}
use Rattle.jwt_key_files.proofs.block.first_block.Goals as goal

pub loop-place-preserved : goal.loop-place-preserved
loop-place-preserved c =
    below_more (λ (k : ℕ). (b : List ℕ) → Begins c.args.text.now k b → ⊥) c.loop-place.place c.loop-place.invariant
    c.in_default.ensures

pub returns : goal.returns
returns c = λ b x. c.loop-place.invariant x.place (omega (arith, place_in _ _ _ x.begins)) b x.begins
