-- What a contract sees of a ring.
use Rattle.std.specs.Prelude.{ℕ, refl}
use Rattle.std.specs.Coded.{Coded, code_by, coded×, coded_ℕ}
use Rattle.jwt_verifier.specs.contracts.keys.Keys.{the_row}
use Rattle.jwt_verifier.specs.declared.keys.Keys.{Keys}

-- the keys that it was made of, and the bytes that the prepared ones take together, by the table of `PreparedSize`
pub record Ring : Type 0 where
  pub keys : Keys
  pub prepared : ℕ

abbrev pub ring_code : Coded Ring
ring_code =
    code_by (Keys × ℕ) (coded× the_row.coded coded_ℕ) (λ r. (r.keys, r.prepared)) (λ p. record { keys = p.0; prepared = p.1 })
    (λ _. refl)
