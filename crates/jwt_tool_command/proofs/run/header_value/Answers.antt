use Rattle.std.proofs.Common.{inl}
use Rattle.std.proofs.lemmas.Result.{IfOk-weaker, IfErr-weaker}
use Rattle.jwt_header.specs.Header.{ReadsHeader}
use Rattle.jwt_header.proofs.HeaderLemmas.{memory_alone}
use Rattle.jwt_tool_command.proofs.run.header_value.Goals as goal

pub returns-clause-ok : goal.returns-clause-ok
returns-clause-ok c =
    let read = c.in_ok-header.ensures.accepted in
    IfOk-weaker c.to_value-value.result _ _ (λ v written. (read.0, read.1, rw read.2 written)) c.to_value-value.ensures.ok

pub returns-clause-err : goal.returns-clause-err
returns-clause-err c =
    let read = c.in_ok-header.ensures.accepted in
    let reads : ReadsHeader read.0.header_value c.in_ok-header.header = rw read.2 at read.1.1.1.1.0 in
    IfErr-weaker c.to_value-value.result _ _
    (λ e refused. inl (memory_alone read.0.header_value c.in_ok-header.header e reads refused)) c.to_value-value.ensures.err
