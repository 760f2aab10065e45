-- Inverses modulo a prime.
use Rattle.std.specs.Prelude.{ℕ, ◌-◌}
use Rattle.residues.specs.Modulo.{power}

-- the inverse of a modulo a prime m, by Fermat's little theorem
unfoldable pub inverse : (m a : ℕ) → ℕ
inverse m a = power m a (m - 2)
