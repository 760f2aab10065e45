-- Two blocks of 128 bytes that one hasher holds give one digest, whatever message follows them.
use Rattle.std.proofs.Common.{◌≡◌, ◌∙◌, ℕ, suc, zero, ◌+◌, ◌*◌, ◌/◌, List, ◌++◌, length, take, drop, sym, ap, arith}
use Rattle.std.proofs.Common.{append_assoc}
use Rattle.std.proofs.lemmas.List.{take-append-le, length-append}
use Rattle.std.proofs.Math.Seq.{drop-append-add}
use Rattle.sha2.specs.Sha512.{compress, hash_after, padding, padded_message, final_hash, sha384, sha512, digest_bytes}
use Rattle.sha2.specs.Sha512.{initial_hash_384, initial_hash_512}
use Rattle.sha2.specs.Sha512 as S512
use Rattle.sha2.specs.Hashers.{Holds384, Holds512}
use Rattle.sha2.specs.declared.Sha384.{Sha384}
use Rattle.sha2.specs.declared.Sha512.{Sha512}

-- the hash value after one block more than k
after : (i m n r : List ℕ) → length m ≡ 128 → length n ≡ 128 → hash_after i m 1 ≡ hash_after i n 1
    → (k : ℕ) → hash_after i (m ++ r) (suc k) ≡ hash_after i (n ++ r) (suc k)
unfolding hash_after
after i m n r p q h zero = ap (compress i) (take-append-le 128 m r (omega arith)) ∙ h
    ∙ sym (ap (compress i) (take-append-le 128 n r (omega arith)))
after i m n r p q h (suc k) =
    let rest : (b : List ℕ) → length b ≡ 128 → drop (suc k * 128) (b ++ r) ≡ drop (k * 128) r
    = λ b e. ap (λ j. drop j (b ++ r)) (omega arith) ∙ rw e at (drop-append-add b r (k * 128)) in
    ap (λ s. compress s (take 128 (drop (suc k * 128) (m ++ r)))) (after i m n r p q h k)
    ∙ ap (λ d. compress (hash_after i (n ++ r) (suc k)) (take 128 d)) (rest m p ∙ sym (rest n q))

-- a message behind a block, with its padding
padded : (b x : List ℕ) → length b ≡ 128 → padded_message (b ++ x) ≡ b ++ (x ++ padding (128 + length x))
padded b x e = ap (λ l. (b ++ x) ++ padding l) (length-append b x ∙ ap (λ l. l + length x) e)
    ∙ append_assoc b x (padding (128 + length x))

blocks : (b r : List ℕ) → length b ≡ 128 → length (b ++ r) / 128 ≡ suc (length r / 128)
blocks b r e = let l = length-append b r in omega arith

-- the hash value of the whole
one_value : (i m n x : List ℕ) → length m ≡ 128 → length n ≡ 128 → hash_after i m 1 ≡ hash_after i n 1
    → final_hash i (m ++ x) ≡ final_hash i (n ++ x)
one_value i m n x p q held =
    let r = x ++ padding (128 + length x) in
    let count : (b : List ℕ) → length b ≡ 128 → final_hash i (b ++ x) ≡ hash_after i (b ++ r) (suc (length r / 128))
    = λ b e. ap (λ t. hash_after i t (length t / 128)) (padded b x e) ∙ ap (hash_after i (b ++ r)) (blocks b r e) in
    count m p ∙ after i m n r p q held (length r / 128) ∙ sym (count n q)

pub one_digest_384 : (s : Sha384) (m n x : List ℕ) → length m ≡ 128 → length n ≡ 128 → Holds384 s m → Holds384 s n
    → sha384 (m ++ x) ≡ sha384 (n ++ x)
unfolding sha384 S512.Holds
one_digest_384 s m n x p q f g =
    ap (λ h. take 48 (digest_bytes h 8)) (one_value initial_hash_384 m n x p q (sym (rw p at f.1.0) ∙ (rw q at g.1.0)))

pub one_digest_512 : (s : Sha512) (m n x : List ℕ) → length m ≡ 128 → length n ≡ 128 → Holds512 s m → Holds512 s n
    → sha512 (m ++ x) ≡ sha512 (n ++ x)
unfolding sha512 S512.Holds
one_digest_512 s m n x p q f g =
    ap (λ h. digest_bytes h 8) (one_value initial_hash_512 m n x p q (sym (rw p at f.1.0) ∙ (rw q at g.1.0)))
