-- Numbers in decimal digits.
use Rattle.std.specs.Prelude.{◌&&◌, ◌^◌, ltb, length, if◌then◌else◌, ℕ, List, Option, Some, None}
use Rattle.std.specs.Str.{all_ascii_digits}
use Rattle.std.specs.Str.Parse.{digits_value}

-- the number that one or more decimal digits stand for, if it has at most 64 bits
abbrev pub decimal_value : List ℕ → Option ℕ
decimal_value word =
    if all_ascii_digits word && (ltb 0 (length word)
    && ltb (digits_value 10 word) (2 ^ 64)) then Some (digits_value 10 word)
    else None
