-- The options that a token is checked against, with sets of strings as tests of strings.
use Rattle.std.specs.Prelude.{◌&&◌, ◌||◌, ℕ, List, [], Bool, true, false, Option, None, is_some, unwrap_or, codes}
use Rattle.std.specs.List.{list_any}
use Rattle.std.specs.Str.{bytes_eq}
use Rattle.jwt_base.specs.declared.algorithms.Algorithm.{Algorithm}

-- a set of strings
abbrev pub Texts : Type 0
Texts = List ℕ → Bool

-- the options that a token is checked against (RFC 7519 section 4.1, RFC 7515 section 4.1.11, RFC
-- 8725 section 3.1)
pub record Options : Type 0 where
  pub required : Texts
  pub leeway : ℕ
  pub reject : ℕ
  pub checks_exp : Bool
  pub checks_nbf : Bool
  pub checks_aud : Bool
  pub aud : Option Texts
  pub iss : Option Texts
  pub sub : Option (List ℕ)
  pub algorithms : List Algorithm
  pub understood : Texts

abbrev pub no_texts : Texts
no_texts _ = false

-- the set of the strings of a list's items
abbrev pub among : {A : Type 0} → (A → List ℕ) → List A → Texts
among text items t = list_any (λ a. bytes_eq (text a) t) items

-- the configured audience; None counts as empty (RFC 7519 section 4.1.3)
abbrev pub audience : Options → Texts
audience v = unwrap_or v.aud no_texts

-- the default options
abbrev pub default_options : List Algorithm → Options
default_options algorithms = record {
  required = bytes_eq (codes "exp");
  leeway = 60;
  reject = 0;
  checks_exp = true;
  checks_nbf = false;
  checks_aud = true;
  aud = None;
  iss = None;
  sub = None;
  algorithms = algorithms;
  understood = no_texts;
}

-- those that name no algorithm
abbrev pub defaults : Options
defaults = default_options []

-- the strict options: nbf is checked, without leeway, and a token is refused from its exp on (RFC 7519 section 4.1.4)
abbrev pub strict_options : List Algorithm → Options
strict_options algorithms = record (default_options algorithms) {
  leeway = 0;
  reject = 1;
  checks_nbf = true;
}

-- the set with this name too, if the claim is configured
abbrev pub with_name : Bool → List ℕ → Texts → Texts
with_name is_configured name names t = (is_configured && bytes_eq name t) || names t

-- the options that require aud, iss and sub too, if these are configured
abbrev pub requiring_configured : Options → Options
requiring_configured o = record o {
  required = with_name (is_some o.sub) (codes "sub")
      (with_name (is_some o.iss) (codes "iss") (with_name (is_some o.aud) (codes "aud") o.required));
}
