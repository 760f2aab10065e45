-- Refusals of a key of another family than the algorithm's.
use Rattle.std.specs.Prelude.{◌≡◌, Option, None, Some}
use Rattle.jwt_base.specs.Kind.{Kind}
use Rattle.jwt_base.specs.Kind as kind
use Rattle.jwt_base.specs.Algorithm.{family_of}
use Rattle.jwt_base.specs.declared.algorithms.Algorithm.{Algorithm}
use Rattle.jwt_keys.specs.FamilyRefusal.{family_refusal, family_fits}
use Rattle.jwt_keys.specs.Key.{Key, Plain, Components, key_family}

abbrev pub verifier_refusal_of : Algorithm → Key → Option Kind
verifier_refusal_of a k = family_refusal (key_family k) (family_of a)

pub family_made : (a : Algorithm) (k : Key) → verifier_refusal_of a k ≡ None → key_family k ≡ family_of a
family_made a k h = family_fits (key_family k) (family_of a) h

-- the refusal of a key that holds no bytes, or is of another family
abbrev pub bytes_refusal_of : Algorithm → Key → Option Kind
bytes_refusal_of a (Plain f b) = family_refusal f (family_of a)
bytes_refusal_of a (Components n e) = Some kind.InvalidKeyFormat

pub bytes_made : (a : Algorithm) (k : Key) → bytes_refusal_of a k ≡ None → key_family k ≡ family_of a
bytes_made a (Plain f b) h = family_fits f (family_of a) h
bytes_made a (Components n e) h = cc

-- nothing that is refused is made
pub never_made : {A : Type 0} {k : Kind} → Some k ≡ None → A
never_made h = cc
