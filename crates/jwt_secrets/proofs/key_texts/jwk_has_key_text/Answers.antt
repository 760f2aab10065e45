use Rattle.jwt_secrets.proofs.Keys.{answers, of_jwk}
use Rattle.jwt_secrets.proofs.key_texts.jwk_has_key_text.Goals as goal

pub returns-in-Ok-clause-ok : goal.returns-in-Ok-clause-ok
returns-in-Ok-clause-ok c = answers c.has_key_text.result (of_jwk c.args.jwk.now c.in-Ok.key c.in-Ok.ensures.ok)
    c.has_key_text.ensures.ok
