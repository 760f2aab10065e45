-- The consequences of a verifier being made, and a proof that one is made by the verdict's own
-- algorithm.
use Rattle.std.specs.Prelude.{◌≡◌, Bool, true, false, None, Some, [], refl, if◌then◌else◌}
use Rattle.std.specs.Bool.{Decides}
use denote.Enum.Bare.{sameb}
use Rattle.std.proofs.Common.{sym}
use Rattle.jwt_base.specs.Algorithm.{family_of}
use Rattle.jwt_base.specs.Kind as kind
use Rattle.jwt_base.specs.declared.algorithms.Algorithm.{Algorithm}
use Rattle.jwt_base.specs.contracts.algorithms.Algorithm.{the_type as algorithms}
use Rattle.jwt_base.specs.contracts.algorithms.AlgorithmFamily.{the_type as families}
use Rattle.jwt_base.specs.equality.VariantsSame.{variant_decides}
use Rattle.jwt_keys.specs.FamilyRefusal.{family_refusal, family_fits}
use Rattle.jwt_keys.specs.Key.{Key, Plain, key_family}
use Rattle.jwt_crypto.specs.Verdict.{Verdict, refusal_by}

-- the algorithm is the verdict's, and the key is of its family
pub record IsMade (v : Verdict) (a : Algorithm) (k : Key) : Type 0 where
  pub algorithm : a ≡ v.algorithm
  pub family : key_family k ≡ family_of a

made_at : (v : Verdict) (a : Algorithm) (k : Key) (b : Bool) → Decides b (v.algorithm ≡ a)
    → (if b then family_refusal (key_family k) (family_of a) else Some kind.InvalidAlgorithm) ≡ None → IsMade v a k
made_at v a k true d h = record { algorithm = sym (d.0 refl); family = family_fits (key_family k) (family_of a) h }
made_at v a k false d h = cc

pub is_made : (v : Verdict) (a : Algorithm) (k : Key) → refusal_by v a k ≡ None → IsMade v a k
is_made v a k h = made_at v a k (sameb algorithms v.algorithm a) (variant_decides algorithms tt v.algorithm a) h

-- the verdict's algorithm and the key of its family without bytes make a verifier
pub made_by_own : (v : Verdict) (a : Algorithm) → a ≡ v.algorithm
    → refusal_by v a (Plain (family_of v.algorithm) []) ≡ None
made_by_own v a h = rw h (rw ((variant_decides algorithms tt v.algorithm v.algorithm).1 refl)
    (rw ((variant_decides families tt (family_of v.algorithm) (family_of v.algorithm)).1 refl) refl))
