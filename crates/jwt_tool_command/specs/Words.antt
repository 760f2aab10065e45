-- The requests that the arguments of the program stand for.
use Rattle.std.specs.Prelude.{if◌then◌else◌, ℕ, List, [], ◌∷◌, Option, Some, None, option_map}
use Rattle.std.specs.Prelude.{option_and_then, codes}
use Rattle.std.specs.Str.{bytes_eq}
use Rattle.jwt_base.specs.Algorithm.{algorithm_named}
use Rattle.jwt_base.specs.Decimal.{decimal_value}
use Rattle.jwt_base.specs.declared.algorithms.Algorithm.{Algorithm}
use Rattle.jwt_params.specs.declared.thumbprints.ThumbprintHash.{ThumbprintHash}
use Rattle.jwt_params.specs.declared.thumbprints.ThumbprintHash.TheVariants.{SHA256, SHA384, SHA512}

-- the header of a token; the thumbprint of a key by a hash; the token of claims, by an algorithm
-- and a secret; a token's claims, verified by these at a time; or a token's claims, verified by
-- an algorithm and the text of a key set at a time
pub data Request : Type 0 where
  ForHeader : Request
  ForThumbprint : ThumbprintHash → Request
  ForToken : Algorithm → List ℕ → Request
  ForClaims : Algorithm → List ℕ → ℕ → Request
  ForClaimsBySet : Algorithm → List ℕ → ℕ → Request

-- the request of one argument
abbrev pub request_named : List ℕ → Option Request
request_named word = if bytes_eq word (codes "header") then Some ForHeader else None

-- the hash of this name
abbrev pub hash_of_name : List ℕ → Option ThumbprintHash
hash_of_name name =
    if bytes_eq name (codes "SHA256") then Some SHA256
    else if bytes_eq name (codes "SHA384") then Some SHA384
    else if bytes_eq name (codes "SHA512") then Some SHA512
    else None

-- `thumbprint`, and the name of a hash
abbrev pub thumbprint_request : List ℕ → List ℕ → Option Request
thumbprint_request word hash =
    if bytes_eq word (codes "thumbprint") then option_map ForThumbprint (hash_of_name hash)
    else None

-- `encode`, the name of an algorithm, and a secret
abbrev pub encoding_request : List ℕ → List ℕ → List ℕ → Option Request
encoding_request word algorithm secret =
    if bytes_eq word (codes "encode") then option_map (λ a. ForToken a secret)
    (algorithm_named algorithm)
    else None

-- the name of an algorithm, a secret or a set, and a time
abbrev pub claims_asked : (Algorithm → List ℕ → ℕ → Request) → List ℕ → List ℕ → List ℕ
    → Option Request
claims_asked request algorithm by moment =
    option_and_then (λ a. option_map (λ time. request a by time) (decimal_value moment))
    (algorithm_named algorithm)

-- `decode` with a secret, or `decode-set` with the text of a set
abbrev pub decoding_request : List ℕ → List ℕ → List ℕ → List ℕ → Option Request
decoding_request word algorithm by moment =
    if bytes_eq word (codes "decode") then claims_asked ForClaims algorithm by moment
    else if bytes_eq word (codes "decode-set") then claims_asked ForClaimsBySet algorithm by moment
    else None

-- the request of the arguments; None if the usage is to be printed
abbrev pub request_of : List (List ℕ) → Option Request
request_of [] = Some ForHeader
request_of (word ∷ []) = request_named word
request_of (word ∷ hash ∷ []) = thumbprint_request word hash
request_of (word ∷ algorithm ∷ secret ∷ []) = encoding_request word algorithm secret
request_of (word ∷ algorithm ∷ by ∷ moment ∷ []) = decoding_request word algorithm by moment
request_of (word ∷ algorithm ∷ by ∷ moment ∷ more ∷ rest) = None
