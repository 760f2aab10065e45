use Rattle.std.proofs.Common.{sym, ◌∙◌}
use Rattle.jwt_key_files.proofs.block.block_at.Goals as goal

pub returns-in_default : goal.returns-in_default
returns-in_default c = λ b x. c.in_default.ensures b (c.split_at.ensures.back ∙ x.mark)

pub returns : goal.returns
returns c = record {
  starts_line = c.starts_line.ensures.0 c.if-not-starts_line.false;
  mark = sym c.split_at.ensures.back ∙ c.in-Some.ensures;
}
