use Rattle.jwt_key_files.proofs.Texts.{closed_ends}
use Rattle.jwt_key_files.proofs.block.is_closed.Goals as goal

pub returns-in_default : goal.returns-in_default
returns-in_default c = (λ f. cc, λ x. absurd (c.in_default.ensures x.after x.text_is))

pub returns : goal.returns
returns c = (
  λ t. record { after = c.in-Some.rest.now; text_is = c.in-Some.ensures; ends = c.ends_line.ensures.0 t },
  λ x. c.ends_line.ensures.1 (closed_ends _ _ _ c.in-Some.ensures x),
)
