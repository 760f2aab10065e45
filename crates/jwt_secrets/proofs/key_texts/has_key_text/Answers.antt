use Rattle.jwt_secrets.proofs.Keys.{answers, of_secret}
use Rattle.jwt_secrets.proofs.key_texts.has_key_text.Goals as goal

pub returns-in-Some-clause-ok : goal.returns-in-Some-clause-ok
returns-in-Some-clause-ok c =
    answers c.is_key_text.result (of_secret c.args.key.now c.in-Some.secret.now c.in-Some.ensures) c.is_key_text.ensures.ok
