use Rattle.std.proofs.Common.{Some, sym, ap}
use Rattle.std.proofs.lemmas.Result.{IfOk-weaker}
use Rattle.jwt_validation.proofs.from_json.required_names.Goals as goal

pub returns-in-None-clause-ok : goal.returns-in-None-clause-ok
returns-in-None-clause-ok c =
    IfOk-weaker c.one_text.result _ _ (λ s e. rw (c.in_ok-names.ensures.ok, c.in-None.is) (ap Some (sym e)))
    c.one_text.ensures.ok
