-- RSASSA-PKCS1-v1_5 (RFC 8017 section 8.2).
use Rattle.std.specs.Prelude.{◌≡◌, ℕ, ◌+◌, ◌-◌, List, [], ◌∷◌, ◌++◌, length, replicate}
use Rattle.modular.specs.Octets.{os2ip, i2osp}
use Rattle.jwt_crypto.specs.declared.hmac.Hash.{Hash}
use Rattle.jwt_crypto.specs.declared.hmac.Hash.TheVariants.{Sha256, Sha384, Sha512}
use Rattle.jwt_crypto.specs.Hmac.{hash_bytes}
use Rattle.jwt_rsa.specs.Rsa.{octet_count, IsRepresentative, rsavp1}

-- DigestInfo in DER, without the digest at its end (RFC 8017 section 9.2 note 1)
abbrev pub digest_info : Hash → List ℕ
digest_info Sha256 = 0x30 ∷ 0x31 ∷ 0x30 ∷ 0x0d ∷ 0x06 ∷ 0x09 ∷ 0x60 ∷ 0x86 ∷ 0x48 ∷ 0x01 ∷ 0x65 ∷ 0x03 ∷ 0x04 ∷ 0x02
    ∷ 0x01 ∷ 0x05 ∷ 0x00 ∷ 0x04 ∷ 0x20 ∷ []
digest_info Sha384 = 0x30 ∷ 0x41 ∷ 0x30 ∷ 0x0d ∷ 0x06 ∷ 0x09 ∷ 0x60 ∷ 0x86 ∷ 0x48 ∷ 0x01 ∷ 0x65 ∷ 0x03 ∷ 0x04 ∷ 0x02
    ∷ 0x02 ∷ 0x05 ∷ 0x00 ∷ 0x04 ∷ 0x30 ∷ []
digest_info Sha512 = 0x30 ∷ 0x51 ∷ 0x30 ∷ 0x0d ∷ 0x06 ∷ 0x09 ∷ 0x60 ∷ 0x86 ∷ 0x48 ∷ 0x01 ∷ 0x65 ∷ 0x03 ∷ 0x04 ∷ 0x02
    ∷ 0x03 ∷ 0x05 ∷ 0x00 ∷ 0x04 ∷ 0x40 ∷ []

-- T: DigestInfo of the message's digest (RFC 8017 section 9.2 step 2)
abbrev pub digest_info_of : Hash → List ℕ → List ℕ
digest_info_of h m = digest_info h ++ hash_bytes h m

-- EMSA-PKCS1-v1_5 in emLen octets: 00 01 PS 00 T, where PS is emLen - tLen - 3 octets of ff
-- (RFC 8017 section 9.2). With an emLen below tLen + 11 there is no encoded message; the moduli that
-- a verifier is made for are longer.
unfoldable pub encoded : Hash → List ℕ → ℕ → List ℕ
encoded h m len =
    0 ∷ 1 ∷ replicate (len - (3 + length (digest_info_of h m))) 0xff ++ (0 ∷ digest_info_of h m)

-- RSASSA-PKCS1-v1_5-VERIFY (RFC 8017 section 8.2.2): in k octets, RSAVP1 of the signature's number is
-- the encoded message
pub record IsPkcs1Signature (h : Hash) (n e bits : ℕ) (m s : List ℕ) : Type 0 where
  pub representative : IsRepresentative n bits s
  pub encoded_is : i2osp (rsavp1 n e (os2ip s)) (octet_count bits) ≡ encoded h m (octet_count bits)
