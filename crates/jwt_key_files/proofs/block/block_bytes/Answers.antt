use Rattle.std.proofs.Common.{◌∙◌}
use Rattle.jwt_key_files.proofs.Blocks.{no_bytes, not_closed}
use Rattle.jwt_key_files.proofs.block.block_bytes.Goals as goal

pub returns-in_default-2-clause-ok : goal.returns-in_default-2-clause-ok
returns-in_default-2-clause-ok c = λ b.
    no_bytes _ _ _ _ _ b _ c.in-Some.ensures c.body_length.ensures c.split_at.ensures.front
    (c.as_slice.ensures.value ∙ c.in_ok-characters.ensures.ok) (rw c.in_default-2.is at c.in_ok-bytes.ensures.ok)

pub returns-then-not-is_closed-clause-ok : goal.returns-then-not-is_closed-clause-ok
returns-then-not-is_closed-clause-ok c = λ b.
    not_closed _ _ _ _ b _ c.in-Some.ensures c.body_length.ensures c.split_at.ensures.back
    (λ x. cc (c.is_closed.ensures.1 x, c.if-not-is_closed.true))
