use Rattle.std.proofs.Common.{◌∙◌, ap}
use Rattle.std.proofs.lemmas.Result.{IfOk-weaker}
use Rattle.jwt_keys.specs.Key.{Key}
use Rattle.jwt_verifier.specs.declared.keys.Keys.TheVariants.{One}
use Rattle.jwt_command.proofs.keys.load_secret.Goals as goal

pub returns-in-Ok-clause-ok : goal.returns-in-Ok-clause-ok
returns-in-Ok-clause-ok c =
    let taken = c.in_ok-secret.ensures.ok in
    IfOk-weaker c.loaded_keys.result _ _ (λ l says. (
      c.in_ok-secret.secret.now,
      taken.0,
      taken.1,
      says.0 ∙ ap (λ (key : Key). One key) c.in-Ok.ensures.ok,
      says.1,
    ))
    c.loaded_keys.ensures.ok
