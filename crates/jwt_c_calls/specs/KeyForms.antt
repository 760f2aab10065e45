-- The forms in which a call writes a key.
use Rattle.std.specs.Prelude.{◌≡◌, ◌⊎◌, ◌==◌, ℕ, List, Option, Some, None, Result, Ok, Err, if◌then◌else◌}
use Rattle.jwt_base.specs.Base64Url.{IsPart}
use Rattle.jwt_base.specs.Kind.{Kind}
use Rattle.jwt_base.specs.Kind as kind
use Rattle.jwt_base.specs.Written.{HasText}
use Rattle.jwt_crypto.specs.Hmac.{hash_bytes}
use Rattle.jwt_crypto.specs.HmacKeys.{hash_named}
use Rattle.jwt_keys.specs.Jwk.{ReadsKey, key_value}
use Rattle.jwt_keys.specs.JwkWritten.{normal_key}
use Rattle.jwt_keys.specs.Thumbprint.{digested, thumb_text}
use Rattle.jwt_keys.specs.declared.jwk.Jwk.{Jwk}
use Rattle.jwt_params.specs.declared.thumbprints.ThumbprintHash.{ThumbprintHash}
use Rattle.jwt_params.specs.declared.thumbprints.ThumbprintHash.TheVariants.{SHA256, SHA384, SHA512}
use Rattle.jwt_c_calls.specs.Calls.{Answer, Returns, Refuses, InputError, Breaks}
use Rattle.jwt_c_calls.specs.declared.key_forms.KeyForm.{KeyForm}
use Rattle.jwt_c_calls.specs.declared.key_forms.KeyForm.TheVariants.{Text, Thumbprint}

-- the compact JSON text of the JSON Web Key (RFC 7517 section 4)
abbrev pub AnswersText : Jwk → Answer → Type 0
AnswersText key (Returns text) = HasText ReadsKey key_value normal_key key text
AnswersText key (Refuses k) = (k ≡ kind.OutOfMemory) ⊎ ((k ≡ kind.Json) × (key_value key ≡ None))
AnswersText key (InputError i) = ⊥
AnswersText key (Breaks f) = ⊥

-- the hash of this many bits (RFC 7638 section 3.4)
abbrev pub hash_numbered : ℕ → Option ThumbprintHash
hash_numbered n = if n == 256 then Some SHA256
    else (if n == 384 then Some SHA384
    else (if n == 512 then Some SHA512
    else None))

-- the thumbprint of a key, as bytes, or the kind of its refusal (RFC 7638 section 3)
abbrev pub thumbprint_of : ThumbprintHash → Jwk → Result (List ℕ) Kind
thumbprint_of hash key = digested (λ text. Ok (hash_bytes (hash_named hash) text)) (thumb_text key)

-- the base64url text of the thumbprint, or the kind of the refusal
abbrev pub AnswersHashed : ThumbprintHash → Jwk → Answer → Type 0
AnswersHashed hash key (Returns part) =
    (bytes : List ℕ) × (thumbprint_of hash key ≡ Ok bytes) × IsPart part bytes
AnswersHashed hash key (Refuses k) = (k ≡ kind.OutOfMemory) ⊎ (thumbprint_of hash key ≡ Err k)
AnswersHashed hash key (InputError i) = ⊥
AnswersHashed hash key (Breaks f) = ⊥

abbrev pub AnswersForm : KeyForm → Jwk → Answer → Type 0
AnswersForm Text key a = AnswersText key a
AnswersForm (Thumbprint hash) key a = AnswersHashed hash key a
