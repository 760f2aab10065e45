-- A caller's yes or no to one signature of one message.
use Rattle.std.specs.Prelude.{◌≡◌, ℕ, List, Bool, IsTrue, Option, Some, if◌then◌else◌}
use denote.Enum.Bare.{sameb}
use Rattle.jwt_base.specs.Algorithm.{family_of}
use Rattle.jwt_base.specs.Kind.{Kind}
use Rattle.jwt_base.specs.Kind as kind
use Rattle.jwt_base.specs.declared.algorithms.Algorithm.{Algorithm}
use Rattle.jwt_base.specs.contracts.algorithms.Algorithm.{the_type as algorithms}
use Rattle.jwt_keys.specs.FamilyRefusal.{family_refusal}
use Rattle.jwt_keys.specs.Key.{Key, key_family}

-- yes or no to this signature of this message, by this algorithm
pub record Verdict : Type 0 where
  pub algorithm : Algorithm
  pub message : List ℕ
  pub signature : List ℕ
  pub says_yes : Bool

-- the verdict is yes, and it is about this message and this signature (RFC 7515 section 5.2)
pub record IsVerified (v : Verdict) (m s : List ℕ) : Type 0 where
  pub yes : IsTrue v.says_yes
  pub message : m ≡ v.message
  pub signature : s ≡ v.signature

-- why no verifier is made by this algorithm and key: it is another algorithm, or the key is not of its family
abbrev pub refusal_by : Verdict → Algorithm → Key → Option Kind
refusal_by v a k =
    if sameb algorithms v.algorithm a
    then family_refusal (key_family k) (family_of a)
    else Some kind.InvalidAlgorithm
