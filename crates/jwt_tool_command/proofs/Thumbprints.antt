-- The refusal of an input without a thumbprint.
use Rattle.std.proofs.Common.{◌≡◌, ◌⊎◌, inl, inr, ℕ, List, Result, Ok, Err, refl, subst}
use Rattle.jwt_base.specs.Kind.{Kind}
use Rattle.jwt_base.specs.Kind as kind
use Rattle.jwt_base.specs.KindOf.{kind_of, IsMemory, RefusesAs}
use Rattle.jwt_base.specs.Base64Url.{IsPart}
use Rattle.jwt_base.specs.JsonText.{ReadsText}
use Rattle.jwt_base.specs.declared.errors.Error.{Error}
use Rattle.jwt_keys.specs.Jwk.{ReadsKey}
use Rattle.jwt_keys.specs.Provider.{RefusesWith}
use Rattle.jwt_keys.specs.Thumbprint.{thumb_text, digested}
use Rattle.jwt_keys.specs.declared.jwk.Jwk.{Jwk}
use Rattle.jwt_tool_command.specs.Line.{HasThumbprintFault}

-- if a digest refuses nothing, there is a text
pub text_under : (h : List ℕ → List ℕ) (o : Result (List ℕ) Kind) (line d : List ℕ) → digested (λ t. Ok (h t)) o ≡ Ok d
    → IsPart line d → (t : List ℕ) × ((o ≡ Ok t) × IsPart line (h t))
text_under h (Ok t) line d e is =
    let same : d ≡ h t = cc in
    (t, (refl, subst (IsPart line) same is))
text_under h (Err k) line d e is = absurd (cc)

no_text : (h : List ℕ → List ℕ) (o : Result (List ℕ) Kind) (k : Kind) → digested (λ t. Ok (h t)) o ≡ Err k → o ≡ Err k
no_text h (Ok t) k e = absurd (cc)
no_text h (Err l) k e = e

abbrev pub Refused : List ℕ → Error → Type 0
Refused input e = IsMemory e ⊎ HasThumbprintFault input (kind_of e)

pub without_key : (input : List ℕ) (e : Error) → RefusesAs kind.Json ((k : Jwk) → ¬ ReadsText ReadsKey input k) e
    → Refused input e
without_key input e (inl m) = inl m
without_key input e (inr r) = inr (inl r)

pub without_text : (h : List ℕ → List ℕ) (input : List ℕ) (key : Jwk) (e : Error) → ReadsText ReadsKey input key
    → RefusesWith (digested (λ t. Ok (h t)) (thumb_text key)) e → Refused input e
without_text h input key e reads (inl m) = inl m
without_text h input key e reads (inr r) = inr (inr (key, (reads, no_text h (thumb_text key) (kind_of e) r)))
