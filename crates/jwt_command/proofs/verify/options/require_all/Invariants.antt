use Rattle.std.proofs.Common.{◌≡◌, ℕ, ◌||◌, List, take}
use Rattle.std.specs.HashSet.{contains_text}
use Rattle.jwt_validation.specs.Options.{among}
use Rattle.jwt_command.proofs.verify.options.require_all.Given as goal

-- the names so far
abbrev pub invariant-loop-name : goal.invariant-loop-name
invariant-loop-name l = (t : List ℕ) → contains_text l.claims t
    ≡ (among (λ s. s.now) (take l.name-index l.names) t || contains_text l.initial.claims t)
