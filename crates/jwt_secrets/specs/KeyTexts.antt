-- The texts of keys, by which anyone can sign if they are taken for secrets of HMAC: a public key is known (RFC 8725
-- sections 2.1
-- and 3.1).
use Rattle.std.specs.Prelude.{◌≡◌, ◌⊎◌, ℕ, List, [], ◌∷◌, ◌++◌, IsSome, codes}
use Rattle.std.specs.List.{Any}
use Rattle.serde_json.specs.Data.{Data}
use Rattle.serde_json.specs.Find.{get}
use Rattle.jwt_base.specs.JsonText.{IsJson}
use Rattle.jwt_base.specs.declared.algorithms.AlgorithmFamily.TheVariants.{Hmac}
use Rattle.jwt_keys.specs.Key.{Key, Plain}
use Rattle.jwt_keys.specs.KeyOfJwk.{IsKeyOf}
use Rattle.jwt_keys.specs.declared.jwk.Jwk.{Jwk}
use Rattle.jwt_key_files.specs.Der.{element}
use Rattle.jwt_secrets.specs.Base64Texts.{IsBase64}

-- ---- keys of SSH and in PEM

-- The names of the keys and certificates of SSH (RFC 4253 section 6.6, RFC 5656 section 3, RFC 8709 section 4, PROTOCOL.u2f,
-- PROTOCOL.certkeys and sshkey.c of OpenSSH), and the beginnings of a file of RFC 4716 and of a block of RFC 7468.
unfoldable pub marks : List (List ℕ)
marks = codes "ssh-rsa" ∷ codes "ssh-dss" ∷ codes "ssh-ed25519" ∷ codes "ssh-ed448" ∷ codes "ssh-xmss"
    ∷ codes "ecdsa-sha2-nistp"
    ∷ codes "sk-ssh-ed25519@openssh.com" ∷ codes "sk-ecdsa-sha2-nistp256@openssh.com" ∷ codes "-cert-v01@openssh.com"
    ∷ codes "---- BEGIN " ∷ codes "-----BEGIN " ∷ []

-- the mark stands somewhere in the text
pub record Has (text mark : List ℕ) : Type 0 where
  pub before : List ℕ
  pub after : List ℕ
  pub stands : text ≡ before ++ (mark ++ after)

abbrev pub IsMarked : (text : List ℕ) → Type 0
IsMarked text = Any (Has text) marks

-- ---- keys in JSON

-- the object has the member that each JSON Web Key has (RFC 7517 section 4.1), or the one that each set has (section 5.1)
abbrev pub IsKeyObject : Data → Type 0
IsKeyObject value = IsSome (get (codes "kty") value) ⊎ IsSome (get (codes "keys") value)

-- the mark that may stand before a text in UTF-8 (RFC 3629 section 6)
abbrev pub byte_order_mark : List ℕ
byte_order_mark = 0xef ∷ 0xbb ∷ 0xbf ∷ []

abbrev pub ReadsKeyObject : (json : List ℕ) → Type 0
ReadsKeyObject json = (value : Data) × (IsJson json value × IsKeyObject value)

-- the text, or what follows its byte order mark, is such an object
abbrev pub IsKeyInJson : (text : List ℕ) → Type 0
IsKeyInJson text = ReadsKeyObject text ⊎ ((json : List ℕ) × ((text ≡ byte_order_mark ++ json) × ReadsKeyObject json))

-- ---- keys in DER

-- the bytes are elements with these tags, one after the other, and the rest
unfoldable pub HasElements : (tags bytes rest : List ℕ) → Type 0
HasElements [] bytes rest = bytes ≡ rest
HasElements (tag ∷ tags) bytes rest =
    (content : List ℕ) × ((after : List ℕ) × ((bytes ≡ element tag content ++ after) × HasElements tags after rest))

-- The tags in a SubjectPublicKeyInfo and in a Certificate (RFC 5280 section 4.1), in an EncryptedPrivateKeyInfo (RFC 5958
-- section 3), and in an RSAPublicKey and an RSAPrivateKey (RFC 8017 appendix A.1).
unfoldable pub all_tags : List (List ℕ)
all_tags = (0x30 ∷ 0x03 ∷ []) ∷ (0x30 ∷ 0x30 ∷ 0x03 ∷ []) ∷ (0x30 ∷ 0x04 ∷ []) ∷ (0x02 ∷ 0x02 ∷ [])
    ∷ (0x02 ∷ 0x02 ∷ 0x02 ∷ 0x02 ∷ 0x02 ∷ 0x02 ∷ 0x02 ∷ 0x02 ∷ 0x02 ∷ []) ∷ []

-- The first tags in a OneAsymmetricKey (RFC 5958 section 2) and in an ECPrivateKey (RFC 5915 section 3), after which optional
-- elements follow.
unfoldable pub first_tags : List (List ℕ)
first_tags = (0x02 ∷ 0x30 ∷ 0x04 ∷ []) ∷ (0x02 ∷ 0x04 ∷ []) ∷ []

abbrev pub AreElements : (bytes tags : List ℕ) → Type 0
AreElements bytes tags = HasElements tags bytes []

abbrev pub BeginWithElements : (bytes tags : List ℕ) → Type 0
BeginWithElements bytes tags = (rest : List ℕ) × HasElements tags bytes rest

-- the elements of a SEQUENCE are those of a key
abbrev pub IsKeyContent : (content : List ℕ) → Type 0
IsKeyContent content = Any (AreElements content) all_tags ⊎ Any (BeginWithElements content) first_tags

abbrev pub IsKeyInDer : (bytes : List ℕ) → Type 0
IsKeyInDer bytes = (content : List ℕ) × ((bytes ≡ element 0x30 content) × IsKeyContent content)

-- ---- secrets

-- the text of a key of another kind
abbrev pub IsKey : (text : List ℕ) → Type 0
IsKey text = IsMarked text ⊎ (IsKeyInDer text ⊎ IsKeyInJson text)

-- the secret is such a text, or base64 of one
abbrev pub IsKeyText : (secret : List ℕ) → Type 0
IsKeyText secret = IsKey secret ⊎ ((bytes : List ℕ) × (IsBase64 secret bytes × IsKey bytes))

-- the key is one for HMAC, and its secret is such a text
abbrev pub HasKeyText : Key → Type 0
HasKeyText key = (secret : List ℕ) × (key ≡ Plain Hmac secret) × IsKeyText secret

-- the key that the JSON Web Key stands for is such a key (RFC 7518 section 6.4.1)
abbrev pub JwkHasKeyText : Jwk → Type 0
JwkHasKeyText jwk = (key : Key) × IsKeyOf jwk.algorithm key × HasKeyText key

-- some key of the set is such a key (RFC 7517 section 5.1)
abbrev pub SetHasKeyText : List Jwk → Type 0
SetHasKeyText keys = Any JwkHasKeyText keys
