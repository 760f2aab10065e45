-- Certificates of primes, which the prover computes: a number is a prime if its certificate holds.
use Rattle.std.proofs.Common.{◌≡◌, ℕ, suc, ◌+◌, ◌-◌, ◌*◌, ◌%◌, ◌^◌, Bool, true, ◌&&◌, eqb, ltb}
use Rattle.std.proofs.lemmas.Bool.{and_parts, eqb-true, ltb-true}
use Rattle.residues.specs.Modulo.{power}
use Rattle.algebra.specs.Primes.{IsPrime}
use Rattle.algebra.proofs.Bits.{by_bits, power_is}
use Rattle.algebra.proofs.Pocklington.{pocklington}
use Rattle.algebra.proofs.Trials.{none_divides, by_trial}

-- No number up to `last` + 1 divides n; or g has the order q * l modulo n, for two primes q and l: gq and gl are its
-- powers with
-- these exponents, and u and v the inverses of gq - 1 and gl - 1 (Pocklington).
pub data Certificate : Type 0 where
  trial : (n last : ℕ) → Certificate
  order : (n g gq gl u v : ℕ) → (q l : Certificate) → Certificate

unfoldable pub number : Certificate → ℕ
number (trial n last) = n
number (order n g gq gl u v q l) = n

-- the power of g by an exponent of at most 384 bits
unfoldable is_power : (n g e r : ℕ) → Bool
is_power n g e r = ltb e (2 ^ 384) && eqb (by_bits n g 384 e) r

unfoldable is_order : (n g gq gl u v q l : ℕ) → Bool
is_order n g gq gl u v q l =
    ltb 1 n && (ltb n ((q * l) * (q * l)) && (is_power n g (q * l) 1 && (is_power n g q gq && (is_power n g l gl
    && (eqb (((gq + (n - 1)) * u) % n) 1 && eqb (((gl + (n - 1)) * v) % n) 1)))))

-- what computes
unfoldable pub holds : Certificate → Bool
unfolding none_divides by_bits is_power is_order number
holds (trial n last) = ltb 1 n && (ltb n (suc (suc last) * suc (suc last)) && none_divides n last)
holds (order n g gq gl u v q l) = holds q && (holds l && is_order n g gq gl u v (number q) (number l))

power_of : (n g e r : ℕ) → is_power n g e r ≡ true → power n g e ≡ r
unfolding is_power
power_of n g e r h =
    let parts = and_parts (ltb e (2 ^ 384)) (eqb (by_bits n g 384 e) r) h in
    power_is n g 384 e r (ltb-true e (2 ^ 384) parts.0) (eqb-true (by_bits n g 384 e) r parts.1)

prime_by : (n g gq gl u v q l : ℕ) → IsPrime q → IsPrime l → is_order n g gq gl u v q l ≡ true → IsPrime n
unfolding is_order
prime_by n g gq gl u v q l pq pl h =
    let above = and_parts _ _ h in
    let room = and_parts _ _ above.1 in
    let whole = and_parts _ _ room.1 in
    let first = and_parts _ _ whole.1 in
    let second = and_parts _ _ first.1 in
    let inverses = and_parts _ _ second.1 in
    pocklington n q l g gq gl u v (ltb-true _ _ above.0) pq pl (ltb-true _ _ room.0)
    (power_of n g (q * l) 1 whole.0) (power_of n g q gq first.0) (power_of n g l gl second.0) (eqb-true _ _ inverses.0)
    (eqb-true _ _ inverses.1)

pub prime_of : (c : Certificate) → holds c ≡ true → IsPrime (number c)
unfolding holds number
prime_of (trial n last) h =
    let above = and_parts _ _ h in
    let room = and_parts _ _ above.1 in
    by_trial n last (ltb-true _ _ above.0) (ltb-true _ _ room.0) room.1
prime_of (order n g gq gl u v q l) h =
    let first = and_parts (holds q) _ h in
    let second = and_parts (holds l) _ first.1 in
    prime_by n g gq gl u v (number q) (number l) (prime_of q first.0) (prime_of l second.0) second.1
