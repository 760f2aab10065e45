-- The consequences of a signature being given for a message, and a proof that it is given for its
-- own message, algorithm and family of keys.
use Rattle.std.specs.Prelude.{◌≡◌, ℕ, List, [], Bool, true, false, bytes_eq, length, nat_eq, Option, None, Some, refl}
use Rattle.std.specs.Prelude.{if◌then◌else◌}
use Rattle.std.specs.Bool.{Decides}
use denote.Enum.Bare.{sameb}
use Rattle.std.proofs.Common.{sym}
use Rattle.std.proofs.lemmas.Bool.Decides.{Decides-eqb, Decides-not}
use Rattle.std.proofs.lemmas.Slice.Eq.{bytes_eq-Decides}
use Rattle.jwt_base.specs.Algorithm.{family_of}
use Rattle.jwt_base.specs.Kind.{Kind}
use Rattle.jwt_base.specs.Kind as kind
use Rattle.jwt_base.specs.declared.algorithms.Algorithm.{Algorithm}
use Rattle.jwt_base.specs.contracts.algorithms.Algorithm.{the_type as algorithms}
use Rattle.jwt_base.specs.contracts.algorithms.AlgorithmFamily.{the_type as families}
use Rattle.jwt_base.specs.equality.VariantsSame.{variant_decides}
use Rattle.jwt_keys.specs.FamilyRefusal.{family_refusal}
use Rattle.jwt_keys.specs.Key.{SecretKey}
use Rattle.jwt_crypto.specs.GivenSignature.{GivenSignature, AreAsMany, HasLength, are_as_many, another_message}
use Rattle.jwt_crypto.specs.GivenSignature.{length_text, signature_length, signer_refusal_by, sign_refusal_by}

-- nothing that is refused is made
pub never_made : {A : Type 0} {k : Kind} → Some k ≡ None → A
never_made h = cc

made_at : (g : GivenSignature) (a : Algorithm) (k : SecretKey) (b : Bool) → Decides b (g.algorithm ≡ a)
    → (if b then family_refusal k.family (family_of a) else Some kind.InvalidAlgorithm) ≡ None → a ≡ g.algorithm
made_at g a k true d h = sym (d.0 refl)
made_at g a k false d h = cc

-- a signer that is made is by the algorithm
pub is_by : (g : GivenSignature) (a : Algorithm) (k : SecretKey) → signer_refusal_by g a k ≡ None → a ≡ g.algorithm
is_by g a k h = made_at g a k (sameb algorithms g.algorithm a) (variant_decides algorithms tt g.algorithm a) h

-- the algorithm and the key of its family without bytes make a signer
pub by_own : (g : GivenSignature) (a : Algorithm) → a ≡ g.algorithm
    → signer_refusal_by g a (record { family = family_of g.algorithm; bytes = [] }) ≡ None
by_own g a h = rw h (rw ((variant_decides algorithms tt g.algorithm g.algorithm).1 refl)
    (rw ((variant_decides families tt (family_of g.algorithm) (family_of g.algorithm)).1 refl) refl))

-- the message is the signature's, and the signature has the length
pub record IsGivenFor (g : GivenSignature) (m : List ℕ) : Type 0 where
  pub message : m ≡ g.message
  pub length : HasLength g.algorithm g.signature

as_many : (n : Option ℕ) (s : List ℕ) → are_as_many n s ≡ true → AreAsMany n s
as_many None s h = (Decides-not (nat_eq (length s) 0) (Decides-eqb (length s) 0)).0 h
as_many (Some n) s h = (Decides-eqb (length s) n).0 h

as_many_is : (n : Option ℕ) (s : List ℕ) → AreAsMany n s → are_as_many n s ≡ true
as_many_is None s h = (Decides-not (nat_eq (length s) 0) (Decides-eqb (length s) 0)).1 h
as_many_is (Some n) s h = (Decides-eqb (length s) n).1 h

given_at : (g : GivenSignature) (m : List ℕ) (b c : Bool) → (b ≡ true → m ≡ g.message)
    → (c ≡ true → HasLength g.algorithm g.signature)
    → (if b then (if c then None else Some (kind.Signing (length_text g.algorithm))) else Some
    (kind.Signing another_message)) ≡ None
    → IsGivenFor g m
given_at g m true true p q h = record { message = p refl; length = q refl }
given_at g m true false p q h = cc
given_at g m false c p q h = cc

pub is_given : (g : GivenSignature) (m : List ℕ) → sign_refusal_by g m ≡ None → IsGivenFor g m
is_given g m h =
    given_at g m (bytes_eq m g.message) (are_as_many (signature_length g.algorithm) g.signature)
    (bytes_eq-Decides m g.message).0 (as_many (signature_length g.algorithm) g.signature) h

pub given_by_own : (g : GivenSignature) (m : List ℕ) → IsGivenFor g m → sign_refusal_by g m ≡ None
given_by_own g m h =
    rw ((bytes_eq-Decides m g.message).1 h.message)
    (rw (as_many_is (signature_length g.algorithm) g.signature h.length) refl)
