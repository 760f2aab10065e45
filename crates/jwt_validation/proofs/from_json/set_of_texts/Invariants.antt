use Rattle.std.proofs.Common.{◌≡◌, ℕ, List, take}
use Rattle.std.specs.HashSet.{contains_text}
use Rattle.jwt_validation.specs.Options.{among}
use Rattle.jwt_validation.proofs.from_json.set_of_texts.Given as goal

-- the strings so far
abbrev pub invariant-loop-text : goal.invariant-loop-text
invariant-loop-text l = (t : List ℕ) → contains_text l.set t ≡ among (λ s. s) (take l.text-index l.texts) t
