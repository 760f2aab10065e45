use Rattle.std.proofs.Common.{inl, inr, string_bytes, subst, sym}
use Rattle.std.proofs.lemmas.Result.{IfOk-weaker}
use Rattle.serde_json.specs.Data.{Data}
use Rattle.jwt_header.specs.declared.header.Header.{Header}
use Rattle.jwt_command.specs.Answers.{IsAcceptedText}
use Rattle.jwt_command.proofs.verify.verify_answer.Goals as goal

pub returns-in-Ok : goal.returns-in-Ok
returns-in-Ok c =
    let says = c.in_ok-contents.ensures.ok in
    let accepted = rw c.in-Ok.is at says.2 in
    let contents = c.in-Ok.contents in
    IfOk-weaker c.accepted_answer-answer.result _ _ (λ a has. (
      says.0,
      says.1,
      inl (
        accepted.0,
        accepted.1,
        has.0,
        subst (λ (h : Header). IsAcceptedText c.args.form h accepted.0.payload_value (string_bytes a.output)) (sym accepted.2)
            (subst (λ (d : Data). IsAcceptedText c.args.form contents.header d (string_bytes a.output)) accepted.3 has.1),
      ),
    ))
    c.accepted_answer-answer.ensures

pub returns-in-Err : goal.returns-in-Err
returns-in-Err c =
    let says = c.in_ok-contents.ensures.ok in
    let refused = rw c.in-Err.is at says.2 in
    IfOk-weaker c.refused_answer.result _ _ (λ a has. (says.0, says.1, inr (c.in-Err.reason, refused, has.0, has.1)))
    c.refused_answer.ensures
