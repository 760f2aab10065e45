use Rattle.std.proofs.Common.{sym, ◌∙◌}
use Rattle.std.proofs.lemmas.List.Folds.{Any-from_list_any, list_any-from_Any}
use Rattle.jwt_validation.proofs.TextsAmong.{some_in-texts}
use Rattle.jwt_validation.proofs.claims.shares_member.Goals as goal

pub returns : goal.returns
returns c =
    let e = c.some_in.ensures ∙ some_in-texts _ c.args.texts.now in
    (λ h. Any-from_list_any _ _ (sym e ∙ h), λ h. e ∙ list_any-from_Any _ _ h)
