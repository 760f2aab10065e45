-- Two blocks of 64 bytes that one hasher holds give one digest, whatever message follows them.
use Rattle.std.proofs.Common.{◌≡◌, ◌∙◌, ℕ, suc, zero, ◌+◌, ◌*◌, ◌/◌, List, ◌++◌, length, take, drop, sym, ap, arith}
use Rattle.std.proofs.Common.{append_assoc}
use Rattle.std.proofs.lemmas.List.{take-append-le, length-append}
use Rattle.std.proofs.Math.Seq.{drop-append-add}
use Rattle.sha2.specs.Sha256.{compress, hash_after, padding, padded_message, sha256, digest_bytes, initial_hash_256}
use Rattle.sha2.specs.Sha256 as S256
use Rattle.sha2.specs.Hashers.{Holds256}
use Rattle.sha2.specs.declared.Sha256.{Sha256}

-- the hash value after one block more than k
after : (i m n r : List ℕ) → length m ≡ 64 → length n ≡ 64 → hash_after i m 1 ≡ hash_after i n 1
    → (k : ℕ) → hash_after i (m ++ r) (suc k) ≡ hash_after i (n ++ r) (suc k)
unfolding hash_after
after i m n r p q h zero = ap (compress i) (take-append-le 64 m r (omega arith)) ∙ h
    ∙ sym (ap (compress i) (take-append-le 64 n r (omega arith)))
after i m n r p q h (suc k) =
    let rest : (b : List ℕ) → length b ≡ 64 → drop (suc k * 64) (b ++ r) ≡ drop (k * 64) r
    = λ b e. ap (λ j. drop j (b ++ r)) (omega arith) ∙ rw e at (drop-append-add b r (k * 64)) in
    ap (λ s. compress s (take 64 (drop (suc k * 64) (m ++ r)))) (after i m n r p q h k)
    ∙ ap (λ d. compress (hash_after i (n ++ r) (suc k)) (take 64 d)) (rest m p ∙ sym (rest n q))

-- a message behind a block, with its padding
padded : (b x : List ℕ) → length b ≡ 64 → padded_message (b ++ x) ≡ b ++ (x ++ padding (64 + length x))
padded b x e = ap (λ l. (b ++ x) ++ padding l) (length-append b x ∙ ap (λ l. l + length x) e)
    ∙ append_assoc b x (padding (64 + length x))

blocks : (b r : List ℕ) → length b ≡ 64 → length (b ++ r) / 64 ≡ suc (length r / 64)
blocks b r e = let l = length-append b r in omega arith

pub one_digest_256 : (s : Sha256) (m n x : List ℕ) → length m ≡ 64 → length n ≡ 64 → Holds256 s m → Holds256 s n
    → sha256 (m ++ x) ≡ sha256 (n ++ x)
unfolding sha256 S256.Holds
one_digest_256 s m n x p q f g =
    let r = x ++ padding (64 + length x) in
    let held : hash_after initial_hash_256 m 1 ≡ hash_after initial_hash_256 n 1 = sym (rw p at f.1.0) ∙ (rw q at g.1.0) in
    let count : (b : List ℕ) → length b ≡ 64 → hash_after initial_hash_256 (padded_message (b ++ x))
    (length (padded_message (b ++ x)) / 64) ≡ hash_after initial_hash_256 (b ++ r) (suc (length r / 64))
    = λ b e. ap (λ t. hash_after initial_hash_256 t (length t / 64)) (padded b x e)
    ∙ ap (hash_after initial_hash_256 (b ++ r)) (blocks b r e) in
    ap (λ h. digest_bytes h 8) (count m p ∙ after initial_hash_256 m n r p q held (length r / 64) ∙ sym (count n q))
