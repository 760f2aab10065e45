-- The lengths of public keys.
use Rattle.std.proofs.Common.{◌≡◌, ℕ, ◌+◌, Bool, true, false, List, length, refl}
use Rattle.std.specs.Prelude.{◌&&◌}
use Rattle.std.proofs.lemmas.Bool.{eqb-true}
use Rattle.ed25519.specs.Ed25519.{is_public_key}
use Rattle.ecdsa.specs.Ecdsa.{is_public_key as is_key_of}
use Rattle.ecdsa.specs.Curves.{is_p256_key, is_p384_key}

-- a test that holds with others holds
first_holds : (a b : Bool) → (a && b) ≡ true → a ≡ true
first_holds true b h = refl
first_holds false b h = cc

pub ed25519_length : (public : List ℕ) → is_public_key public ≡ true → length public ≡ 32
unfolding is_public_key
ed25519_length public h = eqb-true (length public) 32 (first_holds _ _ h)

point_length : (p b size : ℕ) (public : List ℕ) → is_key_of p b size public ≡ true
    → length public ≡ 1 + size + size
unfolding is_key_of
point_length p b size public h =
    eqb-true (length public) (1 + size + size)
    (first_holds _ _ (first_holds _ _ (first_holds _ _ (first_holds _ _ h))))

pub p256_length : (public : List ℕ) → is_p256_key public ≡ true → length public ≡ 65
unfolding is_p256_key
p256_length public h = point_length _ _ 32 public h

pub p384_length : (public : List ℕ) → is_p384_key public ≡ true → length public ≡ 97
unfolding is_p384_key
p384_length public h = point_length _ _ 48 public h
