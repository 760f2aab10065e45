-- Sixteen multiples of a point, each with the powers of its z that sums need.
use Rattle.std.specs.Prelude.{◌≡◌, ℕ, zero, suc, ◌/◌, ◌%◌, ◌<◌}
use Rattle.residues.specs.Modulo.{times}
use Rattle.weierstrass.specs.Weierstrass.{Point}
use Rattle.weierstrass.specs.Numbers.{numbers}
use Rattle.weierstrass.specs.Jacobian.{IsMultiple}
use Rattle.weierstrass.specs.declared.entries.Entry.{Entry}
use Rattle.weierstrass.specs.declared.entries.Four.{Four}
use Rattle.weierstrass.specs.declared.entries.Sixteen.{Sixteen}

abbrev pub picked : {F : Type 0} → Four F → ℕ → Entry F
picked q zero = q.zero
picked q (suc zero) = q.one
picked q (suc (suc zero)) = q.two
picked q (suc (suc (suc k))) = q.three

abbrev pub part_of : {F : Type 0} → Sixteen F → ℕ → Four F
part_of t zero = t.zero
part_of t (suc zero) = t.one
part_of t (suc (suc zero)) = t.two
part_of t (suc (suc (suc k))) = t.three

unfoldable pub entry_of : {F : Type 0} → Sixteen F → ℕ → Entry F
entry_of t k = picked (part_of t (k / 4)) (k % 4)

-- the powers are z^2 and z^3
pub record IsEntry (F : Type 0) (p : ℕ) (number : F → ℕ) (e : Entry F) : Type 0 where
  pub square : number e.zz ≡ times p (number e.point.z) (number e.point.z)
  pub cube : number e.zzz ≡ times p (number e.point.z) (times p (number e.point.z) (number e.point.z))

-- the entries are the multiples of P below the 16th
abbrev pub AreMultiples : (F : Type 0) (p b : ℕ) (number : F → ℕ) (P : Point) (table : Sixteen F) → Type 0
AreMultiples F p b number P table = (k : ℕ) → k < 16 → IsMultiple p b k P (numbers number (entry_of table k).point)
