use Rattle.std.proofs.Common.{◌∙◌}
use Rattle.std.proofs.Math.Facts.{Fits-lt-pow}
use Rattle.jwt_base.proofs.Parts.{encode_of-url}
use Rattle.jwt_base.proofs.serialization.part_text.Goals as goal

pub returns-clause-ok : goal.returns-clause-ok
returns-clause-ok c = (λ i. Fits-lt-pow (c.type_inv.bytes i), c.in_ok-encode.ensures.text ∙ encode_of-url _)
