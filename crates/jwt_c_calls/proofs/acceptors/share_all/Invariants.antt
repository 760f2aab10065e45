use Rattle.std.proofs.Common.{◌≡◌, ◌++◌, take}
use Rattle.jwt_c_calls.specs.Acceptors.{accepting_all}
use Rattle.jwt_c_calls.proofs.acceptors.share_all.Given as goal

abbrev pub invariant-loop-acceptor : goal.invariant-loop-acceptor
invariant-loop-acceptor l = accepting_all l.list.items
    ≡ accepting_all l.initial.list.items ++ accepting_all (take l.acceptor-index l.acceptors)
