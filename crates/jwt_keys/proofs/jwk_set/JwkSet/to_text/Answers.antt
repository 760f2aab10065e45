use Rattle.std.proofs.lemmas.Result.{IfOk-weaker}
use Rattle.jwt_base.proofs.WrittenTexts.{has_text}
use Rattle.jwt_keys.specs.JwkSet.{ReadsSet, set_value, normal_set}
use Rattle.jwt_keys.proofs.jwk_set.JwkSet.to_text.Goals as goal

pub returns-clause-ok : goal.returns-clause-ok
returns-clause-ok c =
    let reads = c.to_value.ensures.normal_form.reads_back _ c.in_ok-value.ensures.ok in
    IfOk-weaker c.value_text.result _ _
    (λ text compact. has_text ReadsSet set_value normal_set c.args.self.now.keys.items _ text.items
    c.in_ok-value.ensures.ok reads compact) c.value_text.ensures.ok
