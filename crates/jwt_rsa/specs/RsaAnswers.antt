-- The answers of the providers of RSA about a key: its modulus and exponent, and its digests.
use Rattle.std.specs.Prelude.{◌≡◌, ℕ, List, Option, Result, ok_or, codes}
use Rattle.jwt_base.specs.Kind.{Kind}
use Rattle.jwt_base.specs.Kind as kind
use Rattle.jwt_base.specs.declared.algorithms.Algorithm.{Algorithm}
use Rattle.jwt_base.specs.declared.algorithms.AlgorithmFamily.TheVariants as family
use Rattle.jwt_keys.specs.JwkOfKey.{jwk_of_key}
use Rattle.jwt_keys.specs.Key.{Plain, Components}
use Rattle.jwt_keys.specs.Provider.{KeyAnswers}
use Rattle.jwt_crypto.specs.HmacKeys.{hmac_answers}
use Rattle.jwt_key_files.specs.RsaComponents.{rsa_components}

-- the string of the refusal of bytes that are no RSAPublicKey
abbrev pub no_key_text : List ℕ
no_key_text = codes "the bytes are not an RSAPublicKey in DER"

-- the modulus and the exponent of an RSAPublicKey (RFC 8017 appendix A.1.1), or the kind of the refusal
abbrev pub components_read : (der : List ℕ) → Result (List ℕ × List ℕ) Kind
components_read der = ok_or (rsa_components der) (kind.InvalidRsaKey no_key_text)

-- no private key is read, and digests are those of SHA-2 (RFC 6234)
abbrev pub rsa_answers : KeyAnswers
rsa_answers = record hmac_answers { rsa_public = components_read }

-- the key in DER and the key of the two numbers have the same JSON Web Key (RFC 7518 section 6.3.1), or none
abbrev pub HasJwkOf : (der n e : List ℕ) → Type 0
HasJwkOf der n e =
    (a : Option Algorithm) → jwk_of_key rsa_answers a (Plain family.Rsa der) ≡ jwk_of_key rsa_answers a (Components n e)
