-- RSASSA-PSS (RFC 8017 section 8.1) with MGF1 by the same hash and a salt as long as the digest (RFC 7518 section 3.5).
use Rattle.std.specs.Prelude.{◌≡◌, ℕ, ◌+◌, ◌-◌, ◌*◌, ◌/◌, ◌%◌, ◌^◌, ◌<◌, ◌≤◌, List, [], ◌∷◌, ◌++◌, length, map, take}
use Rattle.std.specs.Prelude.{drop, replicate, slice_index, bit_xor}
use Rattle.std.specs.List.{zip}
use Rattle.std.proofs.Common.{zero, suc}
use Rattle.modular.specs.Octets.{os2ip, i2osp}
use Rattle.jwt_crypto.specs.declared.hmac.Hash.{Hash}
use Rattle.jwt_crypto.specs.declared.hmac.Hash.TheVariants.{Sha256, Sha384, Sha512}
use Rattle.jwt_crypto.specs.Hmac.{hash_bytes}
use Rattle.jwt_rsa.specs.Rsa.{octet_count, IsRepresentative, rsavp1}

-- hLen, the length of a digest in octets; sLen is the same
abbrev pub hash_len : Hash → ℕ
hash_len Sha256 = 32
hash_len Sha384 = 48
hash_len Sha512 = 64

-- Hash(seed || I2OSP(counter, 4)) for the counters from 0 to n - 1 (RFC 8017 appendix B.2.1 step 3)
unfoldable pub mask_blocks : Hash → List ℕ → ℕ → List ℕ
mask_blocks h seed zero = []
mask_blocks h seed (suc n) = mask_blocks h seed n ++ hash_bytes h (seed ++ i2osp n 4)

-- MGF1: the leading octets of ceil(len / hLen) blocks (RFC 8017 appendix B.2.1)
unfoldable pub mgf1 : Hash → List ℕ → ℕ → List ℕ
mgf1 h seed len = take len (mask_blocks h seed ((len + hash_len h - 1) / hash_len h))

-- octet by octet
abbrev pub xored : List ℕ → List ℕ → List ℕ
xored a b = map (λ p. bit_xor p.0 p.1) (zip a b)

-- how many bits of the first octet of emLen octets are among the emBits lowest:
-- 8 - (8 emLen - emBits)
abbrev pub front_bits : ℕ → ℕ
front_bits em_bits = 8 - (8 * octet_count em_bits - em_bits)

-- the first octet with these low bits alone, the others as they are
abbrev pub low_bits : ℕ → List ℕ → List ℕ
low_bits kept [] = []
low_bits kept (x ∷ xs) = (x % 2 ^ kept) ∷ xs

-- EM is maskedDB, H and a trailer: the length of maskedDB, emLen - hLen - 1, and H (RFC 8017 section
-- 9.1.2 step 5)
abbrev pub masked_len : Hash → List ℕ → ℕ
masked_len h em = length em - hash_len h - 1

abbrev pub em_digest : Hash → List ℕ → List ℕ
em_digest h em = take (hash_len h) (drop (masked_len h em) em)

-- DB: maskedDB xor MGF1(H, emLen - hLen - 1), without the bits above emBits (RFC 8017 section 9.1.2
-- steps 7 to 9)
unfoldable pub data_block : Hash → ℕ → List ℕ → List ℕ
data_block h kept em =
    low_bits kept (xored (take (masked_len h em) em) (mgf1 h (em_digest h em) (masked_len h em)))

-- Hash(M'), where M' is eight octets of 0, the message's digest and the salt (RFC 8017 section 9.1.2
-- steps 2, 12 and 13)
abbrev pub salted_digest : Hash → List ℕ → List ℕ → List ℕ
salted_digest h m salt = hash_bytes h (replicate 8 0 ++ hash_bytes h m ++ salt)

-- the data block is this many octets of 0, one of 1, and the salt (RFC 8017 section 9.1.2 steps 10
-- and 11)
pub record HasSalt (zeros : ℕ) (db salt : List ℕ) : Type 0 where
  pub padding : take zeros db ≡ replicate zeros 0
  pub one : slice_index db zeros ≡ 1
  pub salt_is : drop (zeros + 1) db ≡ salt

-- the length, the trailer and the first octet of an encoded message are as they have to be (RFC 8017
-- section 9.1.2 steps 3, 4 and 6)
pub record IsFramed (h : Hash) (kept : ℕ) (em : List ℕ) : Type 0 where
  pub long : 2 * hash_len h + 2 ≤ length em
  pub trailer : slice_index em (length em - 1) ≡ 0xbc
  pub front : slice_index em 0 < 2 ^ kept

-- EMSA-PSS-VERIFY of an encoded message whose first octet has this many bits (RFC 8017 section 9.1.2
-- steps 3 to 14)
pub record IsConsistent (h : Hash) (kept : ℕ) (m em : List ℕ) : Type 0 where
  pub framed : IsFramed h kept em
  pub salt : List ℕ
  pub has_salt : HasSalt (length em - 2 * hash_len h - 2) (data_block h kept em) salt
  pub digest : salted_digest h m salt ≡ em_digest h em

-- RSASSA-PSS-VERIFY (RFC 8017 section 8.1.2): RSAVP1 of the signature's number fits
-- emLen = ceil((modBits - 1) / 8) octets, and in these it is consistent with the message
pub record IsPssSignature (h : Hash) (n e bits : ℕ) (m s : List ℕ) : Type 0 where
  pub representative : IsRepresentative n bits s
  pub fits : rsavp1 n e (os2ip s) < 256 ^ octet_count (bits - 1)
  pub consistent : IsConsistent h (front_bits (bits - 1)) m (i2osp (rsavp1 n e (os2ip s)) (octet_count (bits - 1)))
