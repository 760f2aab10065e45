use Rattle.jwt_key_files.proofs.Prefixes.{none_of_nil, none_of_number, none_of_small, octets_short, octets_long}
use Rattle.jwt_key_files.proofs.element.read_length.Goals as goal

pub returns-in_default : goal.returns-in_default
returns-in_default c = λ n s l. none_of_nil _ c.in_default.ensures n s

pub returns-then-first-lt128 : goal.returns-then-first-lt128
returns-then-first-lt128 c = octets_short _ _ _ c.in-Some.ensures c.if-first-lt128.true

pub returns-in_default-read_number : goal.returns-in_default-read_number
returns-in_default-read_number c =
    none_of_number _ _ _ c.in-Some.ensures c.if-first-lt128.false c.in_default-read_number.ensures

pub returns-then-n-lt128 : goal.returns-then-n-lt128
returns-then-n-lt128 c = λ n s l.
    none_of_small _ _ _ _ _ c.in-Some.ensures c.if-first-lt128.false c.in-Some-read_number.ensures.0
    c.in-Some-read_number.ensures.1 c.if-n-lt128.true n s

pub returns : goal.returns
returns c = octets_long _ _ _ _ _ c.in-Some.ensures c.if-first-lt128.false c.in-Some-read_number.ensures.0
    c.in-Some-read_number.ensures.1 c.if-n-lt128.false
