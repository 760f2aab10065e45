-- The key of a text, and the key of its JSON Web Key.
use Rattle.std.proofs.Common.{◌≡◌, inl, inr, Bool, true, false, cond, eqb, List, ℕ, [], ◌∷◌, length, None, Result, Ok}
use Rattle.std.proofs.Common.{Err, subst, sym}
use Rattle.jwt_base.specs.Kind.{Kind}
use Rattle.jwt_base.specs.Kind as kind
use Rattle.jwt_base.specs.declared.algorithms.AlgorithmFamily.TheVariants as family
use Rattle.jwt_params.specs.declared.curves.EllipticCurve.{EllipticCurve}
use Rattle.jwt_params.specs.declared.curves.EllipticCurve.TheVariants.{P256, P384}
use Rattle.jwt_params.specs.declared.parameters.AlgorithmParameters.{AlgorithmParameters}
use Rattle.jwt_keys.specs.Key.{Key, Plain, Components}
use Rattle.jwt_keys.specs.Provider.{KeyAnswers, reads_no_key}
use Rattle.jwt_keys.specs.JwkOfKey.{StandsFor, answered, jwk_of, parameters_of, rsa_of, uncompressed, elliptic_of}
use Rattle.jwt_keys.specs.declared.jwk.Jwk.{Jwk}
use Rattle.jwt_key_files.specs.Certificates.{IsCertificatePemOf}
use Rattle.jwt_key_files.specs.Files.{IsFileOf}
use Rattle.jwt_key_files.specs.PemKeys.{IsBlockOf, IsPemOf}
use Rattle.jwt_key_files.specs.JwksOfPem.{IsRead, IsJwkOf, IsWritable}
use Rattle.jwt_key_files.specs.PublicKeys.{IsPublicKey}
use Rattle.jwt_key_files.specs.declared.scheme.Scheme.TheVariants as scheme

read_block : (block der : List ℕ) (key : Key) → IsBlockOf block der key → IsRead key
read_block block der key h = elim h [
  | inl a ↦ (a.1.algorithm, (a.1.octets, a.1.is_key))
  | inr a ↦ (scheme.Rsa, (der, a.1))
]

pub read_pem : (text : List ℕ) (key : Key) → IsPemOf text key → IsRead key
read_pem text key h = read_block h.block h.der key h.is_key

pub read_certified : (text : List ℕ) (key : Key) → IsCertificatePemOf text key → IsRead key
read_certified text key h = let i = h.1.1.1.1 in (i.algorithm, (i.octets, i.is_key))

read_public : (bytes : List ℕ) (key : Key) → IsPublicKey bytes key → IsRead key
read_public bytes key (inl rsa) = (scheme.Rsa, (bytes, rsa))
read_public bytes key (inr info) = (info.algorithm, (info.octets, info.is_key))

pub read_file : (bytes : List ℕ) (key : Key) → IsFileOf bytes key → IsRead key
read_file bytes key (inl pem) = read_pem bytes key pem.1
read_file bytes key (inr der) = read_public bytes key der.1

pub stands_for : (jwk : Jwk) (k l : Key) → l ≡ k → StandsFor jwk.algorithm k → StandsFor jwk.algorithm l
stands_for jwk k l e h = subst (StandsFor jwk.algorithm) (sym e) h

-- a key that is made of parameters can be written
abbrev WhatIsMade : Result AlgorithmParameters Kind → Type 0
WhatIsMade (Ok parameters) = IsWritable (jwk_of None parameters)
WhatIsMade (Err k) = Unit {0}

made_by : (b : Bool) (x y : Result AlgorithmParameters Kind) → WhatIsMade x → WhatIsMade y → WhatIsMade (cond b x y)
made_by true x y p q = p
made_by false x y p q = q

made_rsa : (numbers : Result (List ℕ × List ℕ) Kind) → WhatIsMade (answered rsa_of numbers)
made_rsa (Ok numbers) = λ e. cc
made_rsa (Err k) = tt

made_point : (curve : EllipticCurve) (size : ℕ) (bytes : List ℕ) → WhatIsMade (uncompressed curve size bytes)
made_point curve size [] = tt
made_point curve size (first ∷ rest) = made_by (eqb first 4) _ _ (λ e. cc) tt

made_elliptic : (bytes : List ℕ) → WhatIsMade (elliptic_of bytes)
made_elliptic bytes = made_by (eqb (length bytes) 65) _ _ (made_point P256 32 bytes)
    (made_by (eqb (length bytes) 97) _ _ (made_point P384 48 bytes) tt)

made_parameters : (provider : KeyAnswers) (key : Key) → WhatIsMade (parameters_of provider key)
made_parameters provider (Plain family.Hmac secret) = λ e. cc
made_parameters provider (Plain family.Rsa der) = made_rsa (provider.rsa_public der)
made_parameters provider (Plain family.Ec point) = made_elliptic point
made_parameters provider (Plain family.Ed x) = made_by (eqb (length x) 32) _ _ (λ e. cc) tt
made_parameters provider (Components n e) = λ e. cc

made_key : (parameters : Result AlgorithmParameters Kind) (jwk : Jwk) → WhatIsMade parameters
    → answered (jwk_of None) parameters ≡ Ok jwk → IsWritable jwk
made_key (Ok parameters) jwk h e = let same : jwk_of None parameters ≡ jwk = cc in subst IsWritable same h
made_key (Err k) jwk h e = absurd (cc)

-- a provider that reads no key
abbrev reader : KeyAnswers
reader = reads_no_key kind.Base64 (λ _ _. Err kind.Base64)

pub writable : (key : Key) (jwk : Jwk) → IsJwkOf key jwk → IsWritable jwk
writable key jwk h = made_key (parameters_of reader key) jwk (made_parameters reader key) (h reader)
