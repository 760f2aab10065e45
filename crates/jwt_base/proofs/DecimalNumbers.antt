-- `parse` reads a string without a sign as the number that it stands for.
use Rattle.std.proofs.Common.{◌≡◌, refl, ap, ℕ, ◌<◌, ◌^◌, length, Bool, true, false, ◌&&◌, List, Some, None, if◌then◌else◌}
use Rattle.std.specs.Prelude.{ltb}
use Rattle.std.specs.Result.{OkIff, result_ok}
use Rattle.std.specs.declared.result.Result.{Result}
use Rattle.std.specs.declared.result.Result.TheVariants.{Ok, Err}
use Rattle.std.specs.Str.{all_ascii_digits}
use Rattle.std.specs.Str.Parse.{digits_value}
use Rattle.std.proofs.lemmas.Bool.{ltb-true, lt-ltb, false≢true}
use Rattle.jwt_base.specs.Decimal.{decimal_value}

read_as : {E : Type 0} (a b c : Bool) (v : ℕ) (r : Result ℕ E) → OkIff r ((a ≡ true) × (b ≡ true) × (c ≡ true)) v
    → result_ok r ≡ (if a && (b && c) then Some v else None)
read_as true true true v (Ok x) h = ap Some h.1
read_as true true true v (Err e) h = absurd (h (refl, refl, refl))
read_as true true false v (Ok x) h = absurd (false≢true h.0.2)
read_as true true false v (Err e) h = refl
read_as true false c v (Ok x) h = absurd (false≢true h.0.1)
read_as true false c v (Err e) h = refl
read_as false b c v (Ok x) h = absurd (false≢true h.0.0)
read_as false b c v (Err e) h = refl

tested : {E : Type 0} (bs : List ℕ) (r : Result ℕ E)
    → OkIff r ((all_ascii_digits bs ≡ true) × (0 < length bs) × (digits_value 10 bs < 2 ^ 64)) (digits_value 10 bs)
    → OkIff r ((all_ascii_digits bs ≡ true) × (ltb 0 (length bs) ≡ true) × (ltb (digits_value 10 bs) (2 ^ 64) ≡ true))
    (digits_value 10 bs)
tested bs (Ok x) h = ((h.0.0, lt-ltb _ _ h.0.1, lt-ltb _ _ h.0.2), h.1)
tested bs (Err e) h = λ p. h (p.0, ltb-true _ _ p.1, ltb-true _ _ p.2)

pub number_read : {E : Type 0} (bs : List ℕ) (r : Result ℕ E)
    → OkIff r ((all_ascii_digits bs ≡ true) × (0 < length bs) × (digits_value 10 bs < 2 ^ 64)) (digits_value 10 bs)
    → result_ok r ≡ decimal_value bs
number_read bs r h = read_as _ _ _ _ r (tested bs r h)
