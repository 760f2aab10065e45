-- Hashers that have taken a secret's two blocks in: the intermediate results that may be kept for
-- the next messages (RFC 2104 section 4).
use Rattle.std.specs.Prelude.{◌≡◌, ℕ, List}
use Rattle.sha2.specs.Hashers.{Holds256, Holds384, Holds512}
use Rattle.jwt_crypto.specs.declared.hmac.Hash.{Hash}
use Rattle.jwt_crypto.specs.declared.hmac.Hash.TheVariants.{Sha256, Sha384, Sha512}
use Rattle.jwt_crypto.specs.declared.prepared_hashers.Hashers.{Hashers}
use Rattle.jwt_crypto.specs.declared.prepared_hashers.Hashers.TheVariants.{By256, By384, By512}
use Rattle.jwt_crypto.specs.Hmac.{inner_block, outer_block, hmac}

-- the hash that the two compute
abbrev pub hash_of : Hashers → Hash
hash_of (By256 first second) = Sha256
hash_of (By384 first second) = Sha384
hash_of (By512 first second) = Sha512

-- the first has taken in K' xor ipad of the secret and no more, the second K' xor opad (RFC 2104
-- section 4)
abbrev pub HoldSecret : Hashers → List ℕ → Type 0
HoldSecret (By256 first second) secret =
    Holds256 first (inner_block Sha256 secret) × Holds256 second (outer_block Sha256 secret)
HoldSecret (By384 first second) secret =
    Holds384 first (inner_block Sha384 secret) × Holds384 second (outer_block Sha384 secret)
HoldSecret (By512 first second) secret =
    Holds512 first (inner_block Sha512 secret) × Holds512 second (outer_block Sha512 secret)

-- the signature is the code of the message under each secret that they hold
abbrev pub IsCodeByHeld : Hashers → List ℕ → List ℕ → Type 0
IsCodeByHeld hashers message signature =
    (secret : List ℕ) → HoldSecret hashers secret → signature ≡ hmac (hash_of hashers) secret message
