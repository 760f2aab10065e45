-- Refusals of values and of texts that cannot be read.
use Rattle.std.proofs.Common.{◌≡◌, ℕ, List, inl, inr}
use Rattle.serde_json.specs.Data.{Data}
use Rattle.jwt_base.proofs.Parts.{one_json}
use Rattle.jwt_base.specs.JsonText.{IsJson, ReadsText}
use Rattle.jwt_base.specs.Kind as kind
use Rattle.jwt_base.specs.KindOf.{RefusesAs}
use Rattle.jwt_base.specs.declared.errors.Error.{Error}

-- a refusal, with another reason for the same kind
pub weaker : (P Q : Type 0) (e : Error) → (P → Q) → RefusesAs kind.Json P e → RefusesAs kind.Json Q e
weaker P Q e f (inl memory) = inl memory
weaker P Q e f (inr r) = inr (r.0, f r.1)

module _ {X : Type 0} (reads : Data → X → Type 0) (text : List ℕ) (e : Error) where
  -- a text that is not JSON is not read
  pub no_json : RefusesAs kind.Json ((d : Data) → ¬ IsJson text d) e
      → RefusesAs kind.Json ((x : X) → ¬ ReadsText reads text x) e
  no_json = weaker _ _ e (λ none x r. none r.0 r.1.0)

  -- nor is JSON of a value that is not read
  pub no_value : (d : Data) → IsJson text d → RefusesAs kind.Json ((x : X) → ¬ reads d x) e
      → RefusesAs kind.Json ((x : X) → ¬ ReadsText reads text x) e
  no_value d json = weaker _ _ e (λ none x r. none x (let same : r.0 ≡ d = one_json text _ _ r.1.0 json in rw same at r.1.1))
