use Rattle.std.proofs.Common.{◌∙◌, inl, inr}
use Rattle.std.proofs.lemmas.Result.{IfOk-weaker}
use Rattle.jwt_command.proofs.Unread.{unless_memory}
use Rattle.jwt_command.proofs.keys.load_jwk.Goals as goal

pub returns-in-Ok-read-clause-ok : goal.returns-in-Ok-read-clause-ok
returns-in-Ok-read-clause-ok c =
    IfOk-weaker c.accept_key.result _ _
    (λ l says. (
      c.in-Ok.jwk,
      c.in-Ok.ensures.ok,
      (
        c.in-Ok-read.key,
        c.in-Ok-read.ensures.ok,
        says.0,
        says.1,
        says.2
            ∙ c.own_algorithm-own.ensures,
      ),
    )) c.accept_key.ensures.ok

pub returns-in-Err-read-clause-err : goal.returns-in-Err-read-clause-err
returns-in-Err-read-clause-err c =
    unless_memory _ _ _ c.in-Err-read.ensures.err c.fault_of-in-Err-read.ensures.memory
    (λ none. inr (inl (c.in-Ok.jwk, c.in-Ok.ensures.ok, none)))
