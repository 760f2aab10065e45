use Rattle.std.proofs.Common.{◌≡◌, ◌==◌, take, arith}
use Rattle.std.specs.List.{suffix_len}
use Rattle.std.proofs.lemmas.Bool.Decides.{nat_tests}
use Rattle.std.proofs.lemmas.List.Sums.{suffix_len-take_no}
use Rattle.jwt_secrets.proofs.Digits.{before_padding}
use Rattle.jwt_secrets.proofs.base64_texts.trim_padding.Goals as goal
use Rattle.jwt_secrets.proofs.base64_texts.trim_padding.Goals.{then-loop-count-test+else-characters-count-eq61}
use Rattle.jwt_secrets.proofs.base64_texts.trim_padding.Goals.{else-loop-count-test}

pub returns : goal.returns
returns c =
    let none : suffix_len (λ byte. byte == 0x3d) (take c.loop-count.count c.args.characters.now) ≡ 0 =
    elim c.loop-count-test.branch [
      | then-loop-count-test+else-characters-count-eq61 w ↦ grind (arith, nat_tests, suffix_len-take_no)
      | else-loop-count-test w ↦ grind arith
    ] in
    before_padding c.args.characters.now c.loop-count.count c.loop-count.invariant.0 c.loop-count.invariant.1 none
