-- The secrets that a provider keeps prepared, and the signers and verifiers by one of them.
use Rattle.std.specs.Prelude.{◌≡◌, ℕ, List, Contains, map, ⊤}
use Rattle.jwt_base.specs.declared.algorithms.Algorithm.{Algorithm}
use Rattle.jwt_keys.specs.Key.{Key, Plain, Components, zeros}
use Rattle.jwt_crypto.specs.Hmac.{mac_by}
use Rattle.jwt_crypto.specs.HmacKeys.{algorithm_for}
use Rattle.jwt_crypto.specs.HmacHashers.{hash_of, IsCodeByHeld}
use Rattle.jwt_crypto.specs.declared.prepared_hashers.PreparedKey.{PreparedKey}
use Rattle.jwt_crypto.specs.declared.prepared.SecretInUse.{SecretInUse}
use Rattle.jwt_crypto.specs.declared.prepared.SecretInUse.TheVariants.{Fresh, Kept}
use Rattle.jwt_crypto.specs.declared.prepared.PreparedHmac.{PreparedHmac}
use Rattle.jwt_crypto.specs.declared.prepared.PreparedHmacSigner.{PreparedHmacSigner}
use Rattle.jwt_crypto.specs.declared.prepared.PreparedHmacVerifier.{PreparedHmacVerifier}

-- an algorithm, and the secret that is prepared for it
abbrev pub prepared_key : PreparedKey → Algorithm × List ℕ
prepared_key k = (algorithm_for (hash_of k.held.hashers), k.secret.items)

-- each with its algorithm, in the order in which they were prepared
abbrev pub prepared_keys : PreparedHmac → List (Algorithm × List ℕ)
prepared_keys p = map prepared_key p.keys.items

-- the secret is prepared for the algorithm
abbrev pub IsPrepared : PreparedHmac → Algorithm → List ℕ → Type 0
IsPrepared p a secret = Contains (prepared_keys p) (a, secret)

-- and so for a verification key
abbrev pub IsPreparedKey : PreparedHmac → Algorithm → Key → Type 0
IsPreparedKey p a (Plain f secret) = IsPrepared p a secret
IsPreparedKey p a (Components n e) = ⊥

-- every byte of the secret set to 0
abbrev pub cleared_key : Algorithm × List ℕ → Algorithm × List ℕ
cleared_key k = (k.0, zeros k.1)

-- the algorithm of a signer or a verifier
abbrev pub algorithm_of : SecretInUse → Algorithm
algorithm_of (Fresh b) = algorithm_for b.hash
algorithm_of (Kept h) = algorithm_for (hash_of h.hashers)

-- the signature is the code of the message (RFC 2104 section 2)
abbrev pub IsCodeBy : SecretInUse → List ℕ → List ℕ → Type 0
IsCodeBy (Fresh b) message signature = signature ≡ mac_by b.hash b.inner b.outer message
IsCodeBy (Kept h) message signature = IsCodeByHeld h.hashers message signature

-- by hashers that were kept, and not by the secret anew (RFC 2104 section 4)
abbrev pub IsKept : SecretInUse → Type 0
IsKept (Fresh b) = ⊥
IsKept (Kept h) = ⊤

abbrev pub IsKeptSigner : PreparedHmacSigner → Type 0
IsKeptSigner s = IsKept s.keyed

abbrev pub IsKeptVerifier : PreparedHmacVerifier → Type 0
IsKeptVerifier v = IsKept v.keyed
