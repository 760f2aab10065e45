-- Which secret a pair of blocks is made of.
use Rattle.std.specs.Prelude.{◌≡◌, ℕ, List, take}
use Rattle.jwt_keys.specs.Key.{Key, Plain, Components}
use Rattle.jwt_crypto.specs.Hmac.{block_len, inner_block, outer_block}
use Rattle.jwt_crypto.specs.declared.hmac.Hash.{Hash}

-- the first B bytes are K' xor ipad and K' xor opad of this secret (RFC 2104 section 2)
pub record AreBlocksOf (hash : Hash) (inner outer secret : List ℕ) : Type 0 where
  pub first : take (block_len hash) inner ≡ inner_block hash secret
  pub second : take (block_len hash) outer ≡ outer_block hash secret

-- they are those of the secret that the key is
abbrev pub AreBlocksOfKey : Hash → List ℕ → List ℕ → Key → Type 0
AreBlocksOfKey hash inner outer (Plain family secret) = AreBlocksOf hash inner outer secret
AreBlocksOfKey hash inner outer (Components n e) = ⊥
