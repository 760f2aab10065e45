-- A claim of a token, as the claim rules see it.
use Rattle.std.specs.Prelude.{ℕ, List, [], ◌∷◌, Option, Some, None, option_map, option_and_then, ⊤, codes}
use Rattle.std.specs.Option.{option_map_or}
use Rattle.serde_json.specs.Data.{Data, null, boolean, number, string, array, object, Items, no_items, item}
use Rattle.serde_json.specs.Find.{get, as_number, as_u64, as_str}
use Rattle.jwt_validation.specs.declared.claims.Claim.{Claim}
use Rattle.jwt_validation.specs.declared.claims.Claim.TheVariants.{Absent, Malformed, Value}

-- a member that is a time in whole seconds; null and floats are malformed
-- (RFC 7519 sections 2, 4.1.4 and 4.1.5)
abbrev pub time_in : Option Data → Claim ℕ
time_in None = Absent
time_in (Some d) = option_map_or Value (option_and_then as_u64 (as_number d)) Malformed

-- a member that is a string; null counts as absent (RFC 7519 section 4.1.2)
abbrev pub text_in : Option Data → Claim (List ℕ)
text_in None = Absent
text_in (Some null) = Absent
text_in (Some (boolean b)) = Malformed
text_in (Some (number n)) = Malformed
text_in (Some (string s)) = Value s
text_in (Some (array ds)) = Malformed
text_in (Some (object ms)) = Malformed

-- the items, if each is a string (RFC 7519 section 4.1.3)
abbrev pub all_texts : Items → Option (List (List ℕ))
all_texts no_items = Some []
all_texts (item d ds) = option_and_then (λ s. option_map (λ ss. s ∷ ss) (all_texts ds)) (as_str d)

-- a member that is a string or a list of strings; null counts as absent (RFC 7519 sections 4.1.1
-- and 4.1.3)
abbrev pub texts_in : Option Data → Claim (List (List ℕ))
texts_in None = Absent
texts_in (Some null) = Absent
texts_in (Some (boolean b)) = Malformed
texts_in (Some (number n)) = Malformed
texts_in (Some (string s)) = Value (s ∷ [])
texts_in (Some (array ds)) = option_map_or Value (all_texts ds) Malformed
texts_in (Some (object ms)) = Malformed

-- the claims that have rules (RFC 7519 sections 4.1.1 to 4.1.5)
pub record Claims : Type 0 where
  pub exp : Claim ℕ
  pub nbf : Claim ℕ
  pub sub : Claim (List ℕ)
  pub iss : Claim (List (List ℕ))
  pub aud : Claim (List (List ℕ))

-- the claims of a JSON value, by their names (RFC 7519 sections 4.1.1 to 4.1.5)
abbrev pub claims_of : Data → Claims
claims_of d = record {
  exp = time_in (get (codes "exp") d);
  nbf = time_in (get (codes "nbf") d);
  sub = text_in (get (codes "sub") d);
  iss = texts_in (get (codes "iss") d);
  aud = texts_in (get (codes "aud") d);
}

-- it is absent, or a value
abbrev pub IsWellFormed : {A : Type 0} → Claim A → Type 0
IsWellFormed Absent = ⊤
IsWellFormed Malformed = ⊥
IsWellFormed (Value a) = ⊤

-- it is a value
abbrev pub IsPresent : {A : Type 0} → Claim A → Type 0
IsPresent Absent = ⊥
IsPresent Malformed = ⊥
IsPresent (Value a) = ⊤

-- this holds of the value, if it is one
abbrev pub IfValue : {A : Type 0} → Claim A → (A → Type 0) → Type 0
IfValue Absent P = ⊤
IfValue Malformed P = ⊤
IfValue (Value a) P = P a
