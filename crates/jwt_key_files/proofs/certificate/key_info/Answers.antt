use Rattle.jwt_key_files.proofs.Certificates.{no_key_element, to_be_signed}
use Rattle.jwt_key_files.proofs.certificate.key_info.Goals as goal

pub returns-in_default : goal.returns-in_default
returns-in_default c = λ info x. c.in_default.ensures _ x.fields

pub returns-in_default-first_element : goal.returns-in_default-first_element
returns-in_default-first_element c = no_key_element _ _ c.in-Some.ensures c.in_default-first_element.ensures

pub returns : goal.returns
returns c = to_be_signed _ _ _ _ c.in-Some.ensures c.in-Some-first_element.ensures.0 c.in-Some-first_element.ensures.1
