use Rattle.jwt_key_files.proofs.Parts.{unsigned_nil, unsigned_negative, unsigned_zero, unsigned_longer, unsigned_low}
use Rattle.jwt_key_files.proofs.Parts.{unsigned_high}
use Rattle.jwt_key_files.proofs.structures.unsigned_octets.Goals as goal

pub returns-in_default : goal.returns-in_default
returns-in_default c = unsigned_nil _ c.in_default.ensures

pub returns-then-first-ge128 : goal.returns-then-first-ge128
returns-then-first-ge128 c = unsigned_negative _ _ _ c.in-Some.ensures c.if-first-ge128.true

pub returns-then-first-gt0 : goal.returns-then-first-gt0
returns-then-first-gt0 c = unsigned_low _ _ _ c.in-Some.ensures c.if-first-ge128.false c.if-first-gt0.true

pub returns-in_default-next : goal.returns-in_default-next
returns-in_default-next c = unsigned_zero _ _ _ c.in-Some.ensures c.if-first-gt0.false c.in_default-next.ensures

pub returns-then-second-lt128 : goal.returns-then-second-lt128
returns-then-second-lt128 c =
    unsigned_longer _ _ _ _ _ c.in-Some.ensures c.if-first-gt0.false c.in-Some-next.ensures c.if-second-lt128.true

pub returns : goal.returns
returns c = unsigned_high _ _ _ _ _ c.in-Some.ensures c.if-first-gt0.false c.in-Some-next.ensures c.if-second-lt128.false
