-- For providers: the refusal of a key of another family than the algorithm's, and a proof that the
-- families are the same if there is none. A provider that refuses by it proves the law
-- `same_family` by `family_made`.
use Rattle.std.specs.Prelude.{◌≡◌, Bool, true, false, Option, None, Some, if◌then◌else◌, refl}
use Rattle.std.specs.Bool.{Decides}
use denote.Enum.Bare.{sameb}
use Rattle.jwt_base.specs.Kind.{Kind}
use Rattle.jwt_base.specs.Kind as kind
use Rattle.jwt_base.specs.declared.algorithms.AlgorithmFamily.{AlgorithmFamily}
use Rattle.jwt_base.specs.contracts.algorithms.AlgorithmFamily.{the_type as families}
use Rattle.jwt_base.specs.equality.VariantsSame.{variant_decides}
use Rattle.jwt_keys.specs.Provider.{first_refusal}

-- `InvalidKeyFormat` for a key of one family if another is wanted
abbrev pub family_refusal : AlgorithmFamily → AlgorithmFamily → Option Kind
family_refusal f g = if sameb families f g then None else Some kind.InvalidKeyFormat

same_at : (f g : AlgorithmFamily) (b : Bool) → Decides b (f ≡ g)
    → (if b then None else Some kind.InvalidKeyFormat) ≡ None → f ≡ g
same_at f g true d h = d.0 refl
same_at f g false d h = cc

-- a key that is not refused is of that family
pub family_fits : (f g : AlgorithmFamily) → family_refusal f g ≡ None → f ≡ g
family_fits f g h = same_at f g (sameb families f g) (variant_decides families tt f g) h

-- if neither of two refusals is there, the second is not
pub second_is_none : (first second : Option Kind) → first_refusal first second ≡ None → second ≡ None
second_is_none None second h = h
second_is_none (Some k) second h = cc

-- a key that is refused neither for its family nor for a reason of the provider's own, as an
-- algorithm that it does not support
pub family_made : (own : Option Kind) (f g : AlgorithmFamily)
    → first_refusal own (family_refusal f g) ≡ None → f ≡ g
family_made own f g h = family_fits f g (second_is_none own (family_refusal f g) h)
