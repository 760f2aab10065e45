-- The options that the arguments of a command ask for.
use Rattle.std.specs.Prelude.{◌≡◌, ◌&&◌, ◌||◌, not, ℕ, max, List, [], Bool, true, Option, Some, None, option_map}
use Rattle.std.specs.Prelude.{is_some, unwrap_or, if◌then◌else◌, codes}
use Rattle.std.specs.Borrow.{Bor}
use Rattle.std.specs.Option.{option_or}
use Rattle.std.specs.Str.{bytes_eq}
use Rattle.jwt_base.specs.JsonText.{ReadsText}
use Rattle.jwt_validation.specs.Options.{Options, Texts, among, default_options, no_texts, requiring_configured}
use Rattle.jwt_validation.specs.OptionsRead.{ReadsOptions}
use Rattle.jwt_requests.specs.declared.request.Checks.{Checks}

-- the strings that an argument is given; none without the argument
abbrev pub given_texts : Option (Bor (List (Bor (List ℕ)))) → Texts
given_texts None = no_texts
given_texts (Some names) = among (λ s. s.now) names.now

-- the set of the strings that an argument is given, or that of the file without the argument
abbrev pub texts_or : Option (Bor (List (Bor (List ℕ)))) → Option Texts → Option Texts
texts_or None file = file
texts_or (Some names) file = Some (among (λ s. s.now) names.now)

-- the claims of a file that are required, less `exp` if it is not checked (RFC 7519 section 4.1.4)
abbrev pub kept_claims : Bool → Texts → Texts
kept_claims skips_exp file t = not (skips_exp && bytes_eq (codes "exp") t) && file t

-- the claims that are required: these, those that the arguments name, and those that they give a value
abbrev pub required_claims : Checks → Texts → Texts
required_claims c file t =
    (is_some c.subject && bytes_eq (codes "sub") t)
    || ((is_some c.issuers && bytes_eq (codes "iss") t)
    || ((is_some c.audiences && bytes_eq (codes "aud") t)
    || (given_texts c.required t || kept_claims c.skips_exp file t)))

-- The options, made strict: nbf is checked, without leeway, a token is refused from its exp on, and the claims that have a
-- value are required (RFC 7519 sections 4.1.4 and 4.1.5). A time that must be left stays.
abbrev pub strict_options : Options → Options
strict_options o = requiring_configured (record o {
  leeway = 0;
  reject = max 1 o.reject;
  checks_nbf = true;
})

-- the same, if strict options are asked for
abbrev pub strict_options_if : Bool → Options → Options
strict_options_if is_strict o = if is_strict then strict_options o else o

-- the options of a file, changed by each argument that is given
abbrev pub changed_options : Checks → Options → Options
changed_options c file = record {
  required = required_claims c file.required;
  leeway = unwrap_or c.leeway file.leeway;
  reject = unwrap_or c.not_within file.reject;
  checks_exp = not c.skips_exp && file.checks_exp;
  checks_nbf = c.checks_nbf || file.checks_nbf;
  checks_aud = file.checks_aud;
  aud = texts_or c.audiences file.aud;
  iss = texts_or c.issuers file.iss;
  sub = option_or (option_map (λ s. s.now) c.subject) file.sub;
  algorithms = unwrap_or (option_map (λ a. a.items) c.algorithms) file.algorithms;
  understood = unwrap_or (option_map (λ names. among (λ s. s.now) names.now) c.understood) file.understood;
}

-- the options of a file's bytes, or those that are the default without a file
abbrev pub IsBase : Option (List ℕ) → Options → Type 0
IsBase None options = options ≡ default_options []
IsBase (Some bytes) options = ReadsText ReadsOptions bytes options

-- the bytes of a file are no options
abbrev pub IsNoBase : Option (List ℕ) → Type 0
IsNoBase None = ⊥
IsNoBase (Some bytes) = (options : Options) → ¬ ReadsText ReadsOptions bytes options

-- the options that the arguments ask for, if this is what their file of options holds; each other argument changes what
-- strict options are
abbrev pub AreRequested : Checks → Option (List ℕ) → Options → Type 0
AreRequested c bytes options =
    (file : Options) × IsBase bytes file × (options ≡ changed_options c (strict_options_if c.is_strict file))
