use Rattle.std.proofs.lemmas.Result.{IfOk-weaker}
use Rattle.jwt_base.proofs.WrittenTexts.{has_text}
use Rattle.jwt_keys.specs.Jwk.{ReadsKey, key_value}
use Rattle.jwt_keys.specs.JwkWritten.{normal_key}
use Rattle.jwt_keys.proofs.jwk.Jwk.to_text.Goals as goal

pub returns-clause-ok : goal.returns-clause-ok
returns-clause-ok c =
    let reads = c.to_value.ensures.normal_form.reads_back _ c.in_ok-value.ensures.ok in
    IfOk-weaker c.value_text.result _ _ (λ text compact. has_text ReadsKey key_value normal_key c.args.self.now _
    text.items c.in_ok-value.ensures.ok reads compact) c.value_text.ensures.ok
