use Rattle.std.proofs.Common.{take}
use Rattle.std.specs.List.{All}
use Rattle.jwt_secrets.specs.KeyTexts.{marks, Has}
use Rattle.jwt_secrets.proofs.key_texts.is_marked.Given as goal

abbrev pub invariant-loop-mark : goal.invariant-loop-mark
invariant-loop-mark l = All (λ mark. ¬ Has l.text mark) (take l.mark-index marks)
