use Rattle.std.proofs.Common.{[], ◌∙◌, ap, sym, map, option_map, string_bytes}
use Rattle.std.proofs.lemmas.Result.{IfOk-weaker}
use Rattle.jwt_tool_command.specs.Asked.{asked}
use Rattle.jwt_tool_command.proofs.Said.{answers, usage_answers, usage_said, request_said}
use Rattle.jwt_tool_command.proofs.run.answer_to.Goals as goal

pub returns-in_default-clause-said : goal.returns-in_default-clause-said
returns-in_default-clause-said g c =
    IfOk-weaker c.usage.result _ _ (λ a said. usage_said _ (map string_bytes c.args.words.now) _ _
    (sym c.requested_command.ensures ∙ ap (option_map asked) c.in_default.is) said) c.usage.ensures

pub returns-clause-said : goal.returns-clause-said
returns-clause-said g c =
    IfOk-weaker c.command_answer.result _ _ (λ a said. request_said _ (map string_bytes c.args.words.now)
    (asked c.in-Some.command) _ _ _ _ (sym c.requested_command.ensures ∙ ap (option_map asked) c.in-Some.is)
    c.in_ok-input.ensures.whole
    (rw c.deref.ensures.value at c.without_newline.ensures) said) c.command_answer.ensures

pub returns-in_default-clause-of_some_input : goal.returns-in_default-clause-of_some_input
returns-in_default-clause-of_some_input g c =
    IfOk-weaker c.usage.result _ _ (λ a said. (
      [],
      usage_answers (map string_bytes c.args.words.now) [] _ _
          (sym c.requested_command.ensures ∙ ap (option_map asked) c.in_default.is) said,
    )) c.usage.ensures

pub returns-clause-of_some_input : goal.returns-clause-of_some_input
returns-clause-of_some_input g c =
    IfOk-weaker c.command_answer.result _ _ (λ a said. (
      c.without_newline.result.now,
      answers (map string_bytes c.args.words.now) (asked c.in-Some.command) _ _ _
          (sym c.requested_command.ensures ∙ ap (option_map asked) c.in-Some.is) said,
    )) c.command_answer.ensures
