use Rattle.std.proofs.Common.{[], ◌∷◌, ◌++◌, ◌≤◌, arith, length, rules, subst}
use Rattle.std.proofs.lemmas.List.{take_all}
use Rattle.jwt_c_calls.specs.Acceptors.{accepting, accepting_all}
use Rattle.jwt_c_calls.specs.Verdicts.{AcceptsToken, IsToldOf, RefuseAll, RefusesToken}
use Rattle.jwt_c_calls.proofs.Several.{accepted_at, refused_at, told_first, told_more}
use Rattle.jwt_c_calls.proofs.verdicts.decode_after.Goals as goal

pub loop-at-init : goal.loop-at-init
loop-at-init c = ([], tt, told_first c.args.first)

pub returns-in-Ok-clause-ok : goal.returns-in-Ok-clause-ok
returns-in-Ok-clause-ok c =
    let x = c.index-others-at.result in let l = c.loop-at.invariant in let e = c.in-Ok.ensures.ok in
    accepted_at c.args.token.now c.args.time c.args.others.now c.loop-at.at x c.loop-at-test.true l.0 c.in-Ok.accepted l.1
    (subst (λ y. AcceptsToken c.args.token.now c.args.time (accepting y) c.in-Ok.accepted) c.index-others-at.is e.0) e.1

pub loop-at-preserved : goal.loop-at-preserved
loop-at-preserved c =
    let x = c.index-others-at.result in let l = c.loop-at.invariant in
    let e = rw c.in-Err-Refused.field-0-is at c.in-Err-Refused.ensures.err in
    let why = c.in-Err-Refused.why in (
      l.0 ++ why ∷ [],
      refused_at c.args.token.now c.args.time c.args.others.now c.loop-at.at x c.loop-at-test.true l.0 why l.1
          (subst (λ y. RefusesToken c.args.token.now c.args.time (accepting y) why) c.index-others-at.is e.0) e.1,
      rw c.later-latest.ensures (told_more (c.args.first ∷ l.0) c.loop-at.latest why l.2),
    )

pub returns-clause-err : goal.returns-clause-err
returns-clause-err c =
    let l = c.loop-at.invariant in
    let all = take_all c.loop-at.at c.args.others.now c.loop-at-test.false in (
      l.0,
      subst (λ xs. RefuseAll c.args.token.now c.args.time 1 (accepting_all xs) l.0) all l.1,
      l.2,
    )
