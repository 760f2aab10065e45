-- What a key verifies with, by the bits of its algorithms.
use Rattle.std.proofs.Common.{◌≡◌, ◌≢◌, ◌⊎◌, inl, inr, ℕ, zero, suc, ◌<◌, ◌+◌, ◌^◌, List, [], ◌∷◌}
use Rattle.std.proofs.Common.{None, sym, subst, arith, refl}
use Rattle.std.specs.List.{Any}
use Rattle.jwt_base.specs.Algorithm.{all_algorithms}
use Rattle.jwt_base.specs.Kind as kind
use Rattle.jwt_base.specs.declared.algorithms.Algorithm.{Algorithm}
use Rattle.jwt_base.specs.declared.algorithms.Algorithm.TheVariants.{HS256, HS384, HS512, RS256, RS384, RS512, PS256}
use Rattle.jwt_base.specs.declared.algorithms.Algorithm.TheVariants.{PS384, PS512, ES256, ES384, EdDSA}
use Rattle.jwt_keys.proofs.OneKey.{one_key}
use Rattle.jwt_keys.specs.Key.{Key}
use Rattle.jwt_keys.specs.KeyOfJwk.{IsKeyOf, refusal_of}
use Rattle.jwt_keys.specs.declared.jwk.Jwk.{Jwk}
use Rattle.jwt_params.specs.declared.parameters.AlgorithmParameters.{AlgorithmParameters}
use Rattle.jwt_params.specs.declared.parameters.AlgorithmParameters.TheVariants.{EllipticCurve, RSA, OctetKey}
use Rattle.jwt_params.specs.declared.parameters.AlgorithmParameters.TheVariants.{OctetKeyPair, Other}
use Rattle.jwt_secrets.specs.Blank.{IsBlankKey, IsBlankJwk}
use Rattle.jwt_secrets.specs.KeyTexts.{HasKeyText, JwkHasKeyText}
use Rattle.jwt_standard.specs.StandardKeys.{verifier_refusal}
use Rattle.jwt_key_items.specs.KeyItems.{AreBitsFrom, AreBitsOf, IsBit, Verifies, VerifiesWith}

-- ---- no bit, no algorithm

pow_pos : (n : ℕ) → 0 < 2 ^ n
pow_pos zero = omega arith
pow_pos (suc n) = omega (arith, pow_pos n)

none_at : (jwk : Jwk) (a : Algorithm) (bit first : ℕ) → first ≡ 0 → 0 < bit → IsBit (VerifiesWith jwk a) bit first
    → ¬ VerifiesWith jwk a
none_at jwk a bit first zeros low (inl is) v = absurd (omega (arith, is.1))
none_at jwk a bit first zeros low (inr not) v = not.0 v

none_from : (jwk : Jwk) (n : ℕ) (rest : List Algorithm) (bits : ℕ) → bits ≡ 0 → AreBitsFrom jwk n rest bits
    → ¬ Any (VerifiesWith jwk) rest
none_from jwk n [] bits zeros are (k, x, low, is, v) = absurd (omega (arith, low))
none_from jwk n (a ∷ others) bits zeros (first, (more, (sum, bit, tail))) (zero, x, low, is, v) =
    none_at jwk a (2 ^ n) first (omega (arith, sum)) (pow_pos n) bit (subst (VerifiesWith jwk) (sym is) v)
none_from jwk n (a ∷ others) bits zeros (first, (more, (sum, bit, tail))) (suc k, x, low, is, v) =
    none_from jwk (n + 1) others more (omega (arith, sum)) tail (k, x, omega (arith, low), is, v)

pub none_verifies : (jwk : Jwk) (bits : ℕ) → bits ≡ 0 → AreBitsOf jwk bits → ¬ Verifies jwk
none_verifies jwk bits zeros are = none_from jwk 1 all_algorithms bits zeros are

some_from : (jwk : Jwk) (n : ℕ) (rest : List Algorithm) (bits : ℕ) → bits ≢ 0 → AreBitsFrom jwk n rest bits
    → Any (VerifiesWith jwk) rest
some_from jwk n [] bits some are = absurd (some are)
some_from jwk n (a ∷ others) bits some (first, (more, (sum, inl is, tail))) = (0, a, omega arith, refl, is.0)
some_from jwk n (a ∷ others) bits some (first, (more, (sum, inr none, tail))) =
    let any = some_from jwk (n + 1) others more (λ zeros. some (omega (arith, sum, none.1, zeros))) tail in
    (suc any.0, any.1, omega (arith, any.2), any.3, any.4)

pub some_verifies : (jwk : Jwk) (bits : ℕ) → bits ≢ 0 → AreBitsOf jwk bits → Verifies jwk
some_verifies jwk bits some are = some_from jwk 1 all_algorithms bits some are

-- the bits of the twelve algorithms, as they are added up
pub twelve_bits : (jwk : Jwk) (a b c d e f g h i j k l : ℕ)
    → IsBit (VerifiesWith jwk HS256) 2 a
    → IsBit (VerifiesWith jwk HS384) 4 b
    → IsBit (VerifiesWith jwk HS512) 8 c
    → IsBit (VerifiesWith jwk RS256) 16 d
    → IsBit (VerifiesWith jwk RS384) 32 e
    → IsBit (VerifiesWith jwk RS512) 64 f
    → IsBit (VerifiesWith jwk PS256) 128 g
    → IsBit (VerifiesWith jwk PS384) 256 h
    → IsBit (VerifiesWith jwk PS512) 512 i
    → IsBit (VerifiesWith jwk ES256) 1024 j
    → IsBit (VerifiesWith jwk ES384) 2048 k
    → IsBit (VerifiesWith jwk EdDSA) 4096 l
    → AreBitsOf jwk (a + b + c + (d + e + f + g + h + i) + j + k + l)
twelve_bits jwk a b c d e f g h i j k l ha hb hc hd he hf hg hh hi hj hk hl =
    (a, (b + (c + (d + (e + (f + (g + (h + (i + (j + (k + (l + 0)))))))))), (omega arith, ha, (b, (c + (d + (e + (f + (g + (h + (i + (j + (k + (l + 0))))))))), (refl, hb, (c, (d + (e + (f + (g + (h + (i + (j + (k + (l + 0)))))))), (refl, hc, (d, (e + (f + (g + (h + (i + (j + (k + (l + 0))))))), (refl, hd, (e, (f + (g + (h + (i + (j + (k + (l + 0)))))), (refl, he, (f, (g + (h + (i + (j + (k + (l + 0))))), (refl, hf, (g, (h + (i + (j + (k + (l + 0)))), (refl, hg, (h, (i + (j + (k + (l + 0))), (refl, hh, (i, (j + (k + (l + 0)), (refl, hi, (j, (k + (l + 0), (refl, hj, (k, (l + 0, (refl, hk, (l, (0, (refl, hl, refl))))))))))))))))))))))))))))))))))))

-- ---- what a key is, by the key that it stands for

module _ (jwk : Jwk) (key : Key) (is : IsKeyOf jwk.algorithm key) where
  pub not_blank : ¬ IsBlankKey key → ¬ IsBlankJwk jwk
  not_blank not b = not (subst IsBlankKey (one_key jwk.algorithm _ _ b.1 is) b.2)

  pub no_key_text : ¬ HasKeyText key → ¬ JwkHasKeyText jwk
  no_key_text not b = not (subst HasKeyText (one_key jwk.algorithm _ _ b.1 is) b.2)

  pub not_by : (a : Algorithm) → ¬ (verifier_refusal a key ≡ None) → ¬ VerifiesWith jwk a
  not_by a not v = not (subst (λ k. verifier_refusal a k ≡ None) (one_key jwk.algorithm _ _ v.2.1 is) v.2.2)

-- the two kinds of the refusal of parameters that no key has
pub two_refusals : (p : AlgorithmParameters) → (refusal_of p ≡ kind.UnsupportedAlgorithm) ⊎ (refusal_of p ≡ kind.Base64)
two_refusals (EllipticCurve p) = inr refl
two_refusals (RSA p) = inr refl
two_refusals (OctetKey p) = inr refl
two_refusals (OctetKeyPair p) = inr refl
two_refusals (Other p) = inl refl
