-- For private clauses: a result with the test that failed next to its error, and without it.
use Rattle.std.specs.Prelude.{◌≡◌, ◌⊎◌, Option, Some, None, Result, Ok, Err}
use Rattle.jwt_base.specs.KindOf.{IsMemory}
use Rattle.jwt_base.specs.declared.errors.Error.{Error}
use Rattle.jsonwebtoken.specs.declared.refusal.Refusal.{Refusal}
use Rattle.jsonwebtoken.specs.declared.refusal.Test.{Test}

-- the same, with this test
abbrev pub IsWithTest : {R : Type 0} → Test → Result R Error → Result R Refusal → Type 0
IsWithTest c r (Ok y) = r ≡ Ok y
IsWithTest c r (Err f) = (c ≡ f.test) × (r ≡ Err f.error)

-- the same, without the test
abbrev pub IsWithoutTest : {R : Type 0} → Result R Refusal → Result R Error → Type 0
IsWithoutTest (Ok y) r = r ≡ Ok y
IsWithoutTest (Err f) r = r ≡ Err f.error

-- the result, with this test next to its error
abbrev pub tested : {R : Type 0} → Test → Result R Error → Result R Refusal
tested test (Ok y) = Ok y
tested test (Err e) = Err (record { test = test; error = e })

-- the test of a refusal, if there is one, unless memory ran out
abbrev pub IsFailedTest : Option Refusal → Result (Option Test) Error → Type 0
IsFailedTest None r = r ≡ Ok None
IsFailedTest (Some f) r = (IsMemory f.error × (r ≡ Err f.error)) ⊎ (¬ IsMemory f.error × (r ≡ Ok (Some f.test)))
