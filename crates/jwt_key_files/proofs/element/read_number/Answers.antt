use Rattle.std.proofs.Math.Facts.{Fits-lt-pow}
use Rattle.jwt_key_files.proofs.Numbers.{leading, overflows, is_number}
use Rattle.jwt_key_files.proofs.element.read_number.Goals as goal

pub returns-then-begins_with_0 : goal.returns-then-begins_with_0
returns-then-begins_with_0 c =
    let z = c.begins_with_0.ensures.0 c.if-begins_with_0.true in
    leading _ _ _ z.0 c.split_at.ensures.front z.1

pub returns-in_default : goal.returns-in_default
returns-in_default c = overflows _ _ _ _ c.split_at.ensures.front c.split_at.ensures.back c.split_at.ensures.front_len
    c.in_default.ensures

pub returns : goal.returns
returns c =
    is_number _ _ _ _ _ c.split_at.ensures.front c.split_at.ensures.back c.split_at.ensures.front_len
    (λ i. Fits-lt-pow (c.type_inv.bytes i))
    (λ w. cc (c.begins_with_0.ensures.1 w, c.if-begins_with_0.false)) c.in-Some.ensures
