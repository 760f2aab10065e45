-- A secret that is the text of a key, and the keys that have such a secret.
use Rattle.std.proofs.Common.{◌≡◌, ◌↔◌, inl, inr, ℕ, List, Bool, IsTrue, IfOk, sym, subst, ◌∙◌}
use Rattle.std.specs.declared.result.Result.{Result}
use Rattle.std.specs.declared.result.Result.TheVariants.{Ok, Err}
use Rattle.jwt_base.specs.declared.algorithms.AlgorithmFamily.TheVariants.{Hmac}
use Rattle.jwt_keys.specs.Key.{Key, Plain}
use Rattle.jwt_keys.specs.KeyOfJwk.{IsKeyOf}
use Rattle.jwt_keys.specs.declared.jwk.Jwk.{Jwk}
use Rattle.jwt_keys.proofs.OneKey.{one_key}
use Rattle.jwt_key_files.specs.Der.{element}
use Rattle.jwt_key_files.proofs.Prefixes.{one_whole}
use Rattle.jwt_secrets.specs.Base64Texts.{IsBase64, characters, unpadded}
use Rattle.jwt_secrets.specs.KeyTexts.{IsKeyContent, IsKeyInDer, IsKey, IsKeyText, HasKeyText, JwkHasKeyText}
use Rattle.jwt_secrets.proofs.Digits.{one_list}

-- an answer to one question is the answer to another that holds in the same cases
pub answers : {E P Q : Type 0} (r : Result Bool E) → P ↔ Q → IfOk r (λ is. IsTrue is ↔ P) → IfOk r (λ is. IsTrue is ↔ Q)
answers (Ok b) same is = (λ t. same.0 (is.0 t), λ q. is.1 (same.1 q))
answers (Err e) same is = tt

pub in_der : (bytes content : List ℕ) → bytes ≡ element 0x30 content → IsKeyInDer bytes ↔ IsKeyContent content
in_der bytes content e = (
  λ h. subst IsKeyContent (one_whole 0x30 h.0 content (sym h.1.0 ∙ e)) h.1.1,
  λ k. (content, (e, k)),
)

-- a secret that is no key, but may be base64 of one
pub in_base64 : (secret bytes text : List ℕ) → (IsKey secret → ⊥) → IsBase64 secret bytes → text ≡ bytes → IsKey text
    ↔ IsKeyText secret
in_base64 secret bytes text other stands e = (
  λ k. inr (bytes, (stands, subst IsKey e k)),
  λ h. elim h [
    | inl k ↦ absurd (other k)
    | inr b ↦ subst IsKey (one_list (unpadded (characters secret)) b.0 bytes b.1.0 stands ∙ sym e) b.1.1
  ],
)

pub no_key : (secret : List ℕ) → (IsKey secret → ⊥) → ((b : List ℕ) → IsBase64 secret b → ⊥) → IsKeyText secret → ⊥
no_key secret other none h = elim h [
  | inl k ↦ other k
  | inr b ↦ none b.0 b.1.0
]

secret_of : (a b : List ℕ) → Plain Hmac a ≡ Plain Hmac b → a ≡ b
secret_of a b e = cc

pub of_secret : (key : Key) (secret : List ℕ) → key ≡ Plain Hmac secret → IsKeyText secret ↔ HasKeyText key
of_secret key secret e = (
  λ k. (secret, e, k),
  λ h. subst IsKeyText (secret_of h.0 secret (sym h.1 ∙ e)) h.2,
)

pub of_jwk : (jwk : Jwk) (key : Key) → IsKeyOf jwk.algorithm key → HasKeyText key ↔ JwkHasKeyText jwk
of_jwk jwk key is = (
  λ h. (key, is, h),
  λ h. subst HasKeyText (one_key jwk.algorithm h.0 key h.1 is) h.2,
)
