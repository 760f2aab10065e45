-- The code by the blocks of a secret is the code under that secret.
use Rattle.std.proofs.Common.{◌≡◌, ◌∙◌, ℕ, List, take, ap, sym}
use Rattle.jwt_crypto.specs.Hmac.{block_len, inner_block, nested, hmac, mac_by}
use Rattle.jwt_crypto.specs.HmacBlocks.{AreBlocksOf}
use Rattle.jwt_crypto.specs.HmacKeys.{hash_for, algorithm_for, IsHmacOf}
use Rattle.jwt_crypto.specs.declared.hmac.Hash.{Hash}
use Rattle.jwt_crypto.specs.declared.hmac.Hash.TheVariants.{Sha256, Sha384, Sha512}

own_code : (h : Hash) (inner outer secret m : List ℕ) → AreBlocksOf h inner outer secret → mac_by h inner outer m
    ≡ hmac h secret m
unfolding hmac
own_code h inner outer secret m are =
    ap (λ i. nested h i (take (block_len h) outer) m) are.first
    ∙ ap (λ o. nested h (inner_block h secret) o m) are.second

-- the hash of the algorithm by a hash is that hash
code_by : (h : Hash) (secret m s : List ℕ) → IsHmacOf (hash_for (algorithm_for h)) secret m s → s ≡ hmac h secret m
code_by Sha256 secret m s e = e
code_by Sha384 secret m s e = e
code_by Sha512 secret m s e = e

-- a signature under the secret is the code by its blocks
pub own_signature : (h : Hash) (inner outer secret m s : List ℕ) → AreBlocksOf h inner outer secret
    → IsHmacOf (hash_for (algorithm_for h)) secret m s → s ≡ mac_by h inner outer m
own_signature h inner outer secret m s are e = code_by h secret m s e ∙ sym (own_code h inner outer secret m are)
