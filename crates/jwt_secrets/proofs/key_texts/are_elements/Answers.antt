use Rattle.jwt_secrets.proofs.Elements.{no_rest}
use Rattle.jwt_secrets.proofs.key_texts.are_elements.Goals as goal

pub returns-in-Some : goal.returns-in-Some
returns-in-Some c = no_rest c.args.tags.now c.args.bytes.now c.in-Some.rest.now c.in-Some.ensures
