use Rattle.std.proofs.Common.{◌≡◌, None, rules, subst}
use Rattle.std.proofs.lemmas.Result.{IfOk-weaker}
use Rattle.jwt_command.specs.Accepted.{IsRefusalIfAny}
use Rattle.jwt_command.specs.BySignature.{signature_options}
use Rattle.jwt_command.proofs.Attached.{settled_is}
use Rattle.jwt_command.proofs.sign.by_signature.refusal_by_key.Goals as goal

pub returns : goal.returns
returns c =
    let keys = c.in-Some.loaded.now.keys.keys in
    let bytes = c.as_bytes.result.now in
    let same : bytes ≡ c.args.token.now = search rules in
    IfOk-weaker c.refusal_of-reason.result _ _
    (λ d says. rw c.in-Some.is (subst (λ token. IsRefusalIfAny token keys (signature_options c.args.algorithm) 0 None d) same
    (subst (λ o. IsRefusalIfAny bytes keys o 0 None d)
    (settled_is keys bytes c.args.algorithm _ says.0 c.in_ok-validation.ensures says.1) says.2))) c.refusal_of-reason.ensures.ok
