use Rattle.jsonwebtoken.proofs.KnownParts.{new_has_normal_form}
use Rattle.jsonwebtoken.proofs.encoding.steps.header_part.Goals as goal

pub returns-in_err-from_str-clause-normal_form : goal.returns-in_err-from_str-clause-normal_form
returns-in_err-from_str-clause-normal_form c = rw c.in-Some.ensures.alone (new_has_normal_form c.args.header.now.alg)

pub returns-in-Some-clause-normal_form : goal.returns-in-Some-clause-normal_form
returns-in-Some-clause-normal_form c = rw c.in-Some.ensures.alone (new_has_normal_form c.args.header.now.alg)
