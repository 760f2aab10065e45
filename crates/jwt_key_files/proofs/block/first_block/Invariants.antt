use Rattle.std.proofs.Common.{ℕ, ◌<◌, List}
use Rattle.jwt_key_files.specs.Pem.{Begins}
use Rattle.jwt_key_files.proofs.block.first_block.Given as goal

abbrev pub invariant-loop-place : goal.invariant-loop-place
invariant-loop-place l = (k : ℕ) → k < l.place → (b : List ℕ) → Begins l.text k b → ⊥
