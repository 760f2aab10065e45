-- The results of the provider of the table.
use Rattle.std.specs.Prelude.{◌&&◌, ℕ, ◌-◌, List, [], ◌∷◌, Bool, IsTrue, length, drop, nat_lt, if◌then◌else◌, Option}
use Rattle.std.specs.Prelude.{Some, None, Result, Ok, Err, find, option_map, codes}
use Rattle.std.specs.List.{list_any}
use Rattle.std.specs.Str.{bytes_eq}
use Rattle.jwt_base.specs.Kind.{Kind}
use Rattle.jwt_base.specs.Kind as kind
use Rattle.jwt_base.specs.Algorithm.{name_of}
use Rattle.jwt_base.specs.declared.algorithms.Algorithm.{Algorithm}
use Rattle.jwt_params.specs.declared.curves.EllipticCurve.{EllipticCurve}
use Rattle.jwt_params.specs.declared.curves.EllipticCurve.TheVariants.{P256, Ed25519}
use Rattle.jwt_keys.specs.Key.{Key, Plain, Components}

-- this signature of this message, by an algorithm and a key
pub record Entry : Type 0 where
  pub algorithm : Algorithm
  pub key : List ℕ
  pub message : List ℕ
  pub signature : List ℕ

-- the row is one of this algorithm, key and message
abbrev pub is_of : Algorithm → List ℕ → List ℕ → Entry → Bool
is_of a key message row = bytes_eq (name_of row.algorithm) (name_of a) && bytes_eq row.key key && bytes_eq row.message message

-- and of this signature
abbrev pub is_signed : Algorithm → List ℕ → List ℕ → List ℕ → Entry → Bool
is_signed a key message signature row = is_of a key message row && bytes_eq row.signature signature

-- a row has all four
abbrev pub HasRow : List Entry → Algorithm → List ℕ → List ℕ → List ℕ → Type 0
HasRow rows a key message signature = IsTrue (list_any (is_signed a key message signature) rows)

abbrev pub Accepts : List Entry → Algorithm → Key → List ℕ → List ℕ → Type 0
Accepts rows a (Plain f key) message signature = HasRow rows a key message signature
Accepts rows a (Components n e) message signature = ⊥

-- the signature of the first row of this algorithm, key and message
abbrev pub first_signature : List Entry → Algorithm → List ℕ → List ℕ → Option (List ℕ)
first_signature rows a key message = option_map (λ row. row.signature) (find (is_of a key message) rows)

-- `Signing("no row")` if there is none
abbrev pub no_row : Option (List ℕ) → Option Kind
no_row None = Some (kind.Signing (codes "no row"))
no_row (Some signature) = None

abbrev pub rsa_answer : List ℕ → Result (List ℕ × List ℕ) Kind
rsa_answer der = if bytes_eq der (codes "rsa") then Ok (0xC0 ∷ 0xFF ∷ 0xEE ∷ [], 1 ∷ 0 ∷ 1 ∷ []) else Err
    (kind.InvalidRsaKey (codes "no row"))

abbrev pub ec_answer : List ℕ → Algorithm → Result (EllipticCurve × List ℕ × List ℕ) Kind
ec_answer der a = if bytes_eq der (codes "ec") && bytes_eq (name_of a) (codes "ES256") then Ok (
  P256,
  1 ∷ [],
  2 ∷ [],
) else Err kind.InvalidEcdsaKey

-- the last 32 bytes
abbrev pub ed_answer : List ℕ → EllipticCurve → Result (List ℕ) Kind
ed_answer der Ed25519 = if nat_lt (length der) 32 then Err kind.InvalidEddsaKey else Ok (drop (length der - 32) der)
ed_answer der _ = Err kind.InvalidAlgorithm
