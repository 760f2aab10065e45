use Rattle.std.proofs.Common.{ℕ, zero, suc, ◌+◌, ◌-◌, ◌<◌, List, [], ◌∷◌, length, get_or, take, drop, ◌∙◌, arith}
use Rattle.std.proofs.lemmas.List.{get_or-drop}
use Rattle.jwt_rsa.proofs.Bits.{number_after_zero, bits_after_zero}
use Rattle.jwt_rsa.proofs.key.significant.Goals as goal

pub loop-start-preserved : goal.loop-start-preserved
loop-start-preserved c =
    let xs = c.args.octets.now in
    let i = c.loop-start.start in
    let within : i < length xs = omega arith in
    record {
      within = omega arith;
      number = number_after_zero xs i within c.if-octets-start-eq0.true ∙ c.loop-start.invariant.number;
      bits = bits_after_zero xs i within c.if-octets-start-eq0.true ∙ c.loop-start.invariant.bits;
    }

front_octets : (n : ℕ) (xs : List ℕ) → ((k : ℕ) → get_or xs k 0 < 256) → (k : ℕ) → get_or (take n xs) k 0 < 256
front_octets zero xs h k = omega arith
front_octets (suc n) [] h k = omega arith
front_octets (suc n) (x ∷ xs) h zero = h 0
front_octets (suc n) (x ∷ xs) h (suc k) = front_octets n xs (λ i. h (suc i)) k

pub returns-clause-octets : goal.returns-clause-octets
returns-clause-octets c =
    let xs = c.args.octets.now in
    let i = c.loop-start.start in
    let rest : (k : ℕ) → get_or (drop i xs) k 0 < 256 =
    λ k. (let fits = c.type_inv.octets (i + k) in rw get_or-drop (omega (arith, fits))) in
    front_octets (length xs - i) (drop i xs) rest
