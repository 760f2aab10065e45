-- MGF1's blocks, and what decides that an encoded message is consistent.
use Rattle.std.proofs.Common.{◌≡◌, ◌↔◌, ℕ, ◌+◌, ◌-◌, ◌*◌, ◌/◌, ◌%◌, List, ◌++◌, length, add-one, refl, sym, ap, subst}
use Rattle.std.proofs.Common.{◌∙◌, arith}
use Rattle.std.specs.Int.{w32, to_be_bytes}
use Rattle.modular.specs.Octets.{i2osp}
use Rattle.jwt_crypto.specs.declared.hmac.Hash.{Hash}
use Rattle.jwt_crypto.specs.Hmac.{hash_bytes}
use Rattle.jwt_rsa.specs.Pss.{hash_len, mask_blocks, em_digest, data_block, salted_digest, HasSalt, IsFramed, IsConsistent}

-- four octets, the first the most significant
pub counter_octets : (n : ℕ) → i2osp n 4 ≡ to_be_bytes w32 n
unfolding i2osp
counter_octets n = let last : n / 1 % 256 ≡ n % 256 = omega arith in rw last refl

pub blocks_more : (h : Hash) (seed : List ℕ) (n : ℕ) (input block blocks : List ℕ) → input ≡ seed ++ to_be_bytes w32 n
    → block ≡ hash_bytes h input → blocks ≡ mask_blocks h seed n → blocks ++ block ≡ mask_blocks h seed (n + 1)
unfolding mask_blocks
blocks_more h seed n input block blocks i b e = rw (e, b, i, sym (counter_octets n), add-one) refl

-- where the parts are as they have to be, the digest decides
pub digest_decides : (h : Hash) (kept : ℕ) (m em block salt : List ℕ) → IsFramed h kept em → block ≡ data_block h kept em
    → HasSalt (length em - 2 * hash_len h - 2) block salt
    → (salted_digest h m salt ≡ em_digest h em) ↔ IsConsistent h kept m em
digest_decides h kept m em block salt f b s =
    let P : List ℕ → Type 0 = λ z. HasSalt (length em - 2 * hash_len h - 2) z salt in
    let s' : P (data_block h kept em) = subst P b s in (
      λ d. record { framed = f; salt = salt; has_salt = s'; digest = d },
      λ p. let same : salt ≡ p.salt = sym s'.salt_is ∙ p.has_salt.salt_is in ap (λ z. salted_digest h m z) same ∙ p.digest,
    )
