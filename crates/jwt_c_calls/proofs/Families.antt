-- The family whose algorithms count for a token.
use Rattle.std.proofs.Common.{◌≡◌, List, ℕ, None, Option, inl, inr, subst, sym}
use Rattle.jwt_base.specs.declared.algorithms.AlgorithmFamily.{AlgorithmFamily}
use Rattle.jsonwebtoken.specs.Family.{AreOfOneFamily, family_by}
use Rattle.jsonwebtoken.specs.Own.{HasHeaderOf}
use Rattle.jsonwebtoken.specs.Tests.{Contents}
use Rattle.jwt_verifier.specs.Verifying.{source_of}
use Rattle.jwt_verifier.specs.declared.verifier.Verifier.{Verifier}
use Rattle.jwt_c_calls.specs.Verdicts.{IsFamilyFor}

-- what is so of the family of the token's key, and without a family if all algorithms are of one
pub for_family : (v : Verifier) (token : List ℕ) (f : Option AlgorithmFamily) (Is : Option AlgorithmFamily → Type 0)
    → ((g : Option AlgorithmFamily)
    → ((t : Contents) → HasHeaderOf token t → g ≡ family_by (source_of v.keys.keys) t.header) → Is g)
    → (AreOfOneFamily v.validation.algorithms.items → Is None) → IsFamilyFor v token f → Is f
for_family v token f Is by one (inl is) = by f is
for_family v token f Is by one (inr none) = subst Is (sym none.0) (one none.1)
