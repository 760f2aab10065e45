-- Secrets whose blocks the same hashers hold give one code.
use Rattle.std.proofs.Common.{◌≡◌, ◌↔◌, ◌∙◌, ◌≤◌, ◌-◌, ℕ, Bool, true, false, List, ◌++◌, length, replicate, refl, ap}
use Rattle.std.proofs.Common.{arith, length-append, IsTrue, nat_lt, if◌then◌else◌}
use Rattle.std.specs.Coded.{Coded-set, coded_ℕ, coded_bool, coded_list}
use Rattle.std.proofs.Math.Logic.{∥∥₁_elim}
use Rattle.std.proofs.lemmas.List.{length-map, length-replicate}
use Rattle.std.proofs.lemmas.Bool.{ltb-false}
use Rattle.sha2.specs.Sha256.{sha256}
use Rattle.sha2.specs.Sha512.{sha384, sha512}
use Rattle.sha2.proofs.Facts256.{length-sha256}
use Rattle.sha2.proofs.Facts512.{length-sha384, length-sha512}
use Rattle.jwt_crypto.specs.Hmac.{hash_bytes, block_len, short_key, key_block, outer_block, filled, masked, nested, hmac}
use Rattle.jwt_crypto.specs.HmacHashers.{hash_of, HoldSecret, IsCodeByHeld}
use Rattle.jwt_crypto.specs.declared.hmac.Hash.{Hash}
use Rattle.jwt_crypto.specs.declared.hmac.Hash.TheVariants.{Sha256, Sha384, Sha512}
use Rattle.jwt_crypto.specs.declared.prepared_hashers.Hashers.{Hashers}
use Rattle.jwt_crypto.specs.declared.prepared_hashers.Hashers.TheVariants.{By256, By384, By512}
use Rattle.jwt_crypto.proofs.OneDigest256.{one_digest_256}
use Rattle.jwt_crypto.proofs.OneDigest512.{one_digest_384, one_digest_512}

-- a digest is no longer than a block
digest_fits : (h : Hash) (m : List ℕ) → length (hash_bytes h m) ≤ block_len h
digest_fits Sha256 m = let e = length-sha256 m in omega arith
digest_fits Sha384 m = let e = length-sha384 m in omega arith
digest_fits Sha512 m = let e = length-sha512 m in omega arith

either_fits : (n : ℕ) (b : Bool) (x y : List ℕ) → length x ≤ n → (b ≡ false → length y ≤ n)
    → length (if b then x else y) ≤ n
either_fits n true x y p q = p
either_fits n false x y p q = q refl

short_fits : (h : Hash) (k : List ℕ) → length (short_key h k) ≤ block_len h
short_fits h k = either_fits (block_len h) (nat_lt (block_len h) (length k)) (hash_bytes h k) k (digest_fits h k)
    (ltb-false (block_len h) (length k))

-- a masked block has the length of a block
length-block : (mask : ℕ) (h : Hash) (k : List ℕ) → length (masked mask (key_block h k)) ≡ block_len h
unfolding key_block
length-block mask h k =
    let s = short_key h k in
    let n = block_len h in
    let fits = short_fits h k in
    let filling : List ℕ = replicate (n - length s) 0 in
    let whole = length-append s filling in
    let rest : length filling ≡ n - length s = length-replicate (n - length s) 0 in
    length-map (filled n s) _ ∙ omega (arith, fits, whole, rest)

pub one_code : (h : Hashers) (k l m : List ℕ) → HoldSecret h k → HoldSecret h l → hmac (hash_of h) k m ≡ hmac (hash_of h) l m
unfolding hmac nested
one_code (By256 f s) k l m p q =
    ap (λ i. sha256 (outer_block Sha256 k ++ i)) (one_digest_256 f _ _ m (length-block 0x36 Sha256 k)
    (length-block 0x36 Sha256 l) p.0 q.0)
    ∙ one_digest_256 s _ _ _ (length-block 0x5c Sha256 k) (length-block 0x5c Sha256 l) p.1 q.1
one_code (By384 f s) k l m p q =
    ap (λ i. sha384 (outer_block Sha384 k ++ i)) (one_digest_384 f _ _ m (length-block 0x36 Sha384 k)
    (length-block 0x36 Sha384 l) p.0 q.0)
    ∙ one_digest_384 s _ _ _ (length-block 0x5c Sha384 k) (length-block 0x5c Sha384 l) p.1 q.1
one_code (By512 f s) k l m p q =
    ap (λ i. sha512 (outer_block Sha512 k ++ i)) (one_digest_512 f _ _ m (length-block 0x36 Sha512 k)
    (length-block 0x36 Sha512 l) p.0 q.0)
    ∙ one_digest_512 s _ _ _ (length-block 0x5c Sha512 k) (length-block 0x5c Sha512 l) p.1 q.1

-- the code under one secret that is held is the code under each
pub code_of_one : (h : Hashers) (k m s : List ℕ) → ∥ HoldSecret h k ∥₁ → IsCodeByHeld h m s ↔ (s ≡ hmac (hash_of h) k m)
code_of_one h k m s holds = (
  λ code. ∥∥₁_elim holds (Coded-set (coded_list coded_ℕ) _ _) (λ p. code k p),
  λ e l q. ∥∥₁_elim holds (Coded-set (coded_list coded_ℕ) _ _) (λ p. e ∙ one_code h k l m p q),
)

-- a result that is right for each secret that is held is right if one is held
pub right_answer : (h : Hashers) (m s : List ℕ) (answer : Bool) → ∥ ((k : List ℕ) × HoldSecret h k) ∥₁
    → ((k : List ℕ) → HoldSecret h k → IsTrue answer ↔ (s ≡ hmac (hash_of h) k m))
    → IsTrue answer ↔ IsCodeByHeld h m s
right_answer h m s answer some by = (
  λ t k holds. (by k holds).0 t,
  λ code. ∥∥₁_elim some (Coded-set coded_bool _ _) (λ p. (by p.0 p.1).1 (code p.0 p.1)),
)
