-- The text of what was written reads back.
use Rattle.std.proofs.Common.{◌≡◌, ◌↔◌, ℕ, List, true, false, Option, Some, inl, inr, subst, sym, ◌∙◌}
use Rattle.serde_json.specs.Data.{Data}
use Rattle.serde_json.specs.Written.{has_float}
use Rattle.jwt_base.specs.Claims.{IsCompact}
use Rattle.jwt_base.specs.Kind as kind
use Rattle.jwt_base.specs.KindOf.{RefusesAs}
use Rattle.jwt_base.specs.Written.{HasText}
use Rattle.jwt_base.specs.declared.errors.Error.{Error}
use Rattle.jwt_base.proofs.Parts.{one_json}

-- that is so if the value reads as the normal form alone
pub has_text : {A : Type 0} (reads : Data → A → Type 0) (written : A → Option Data) (normal : A → A) (a : A) (d : Data)
    (text : List ℕ)
    → written a ≡ Some d → ((b : A) → reads d b ↔ (b ≡ normal a)) → IsCompact d text → HasText reads written normal a text
has_text reads written normal a d text is law compact = record {
  value = d;
  is_written = is;
  is_text = compact.is_text;
  reads_back = λ shallow b.
      let json = compact.reads_back shallow in
      (λ r. (law b).0 (subst (λ v. reads v b) (one_json text r.0 d r.1.0 json) r.1.1), λ e. (d, (json, (law b).1 e)));
}

-- a value without a float is refused a text for memory alone
pub refused_text : (P : Type 0) (d : Data) (e : Error) → has_float d ≡ false
    → RefusesAs kind.Json (has_float d ≡ true) e → RefusesAs kind.Json P e
refused_text P d e none (inl m) = inl m
refused_text P d e none (inr r) = let both : true ≡ false = sym r.1 ∙ none in absurd (cc)
