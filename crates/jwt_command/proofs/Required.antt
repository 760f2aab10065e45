-- The claims that are required, and the options that the arguments change.
use Rattle.std.proofs.Common.{◌≡◌, ℕ, ◌+◌, ◌<◌, ◌∙◌, ◌&&◌, ◌||◌, not, Bool, true, false, cond, List, get_or, length}
use Rattle.std.proofs.Common.{take, Bor, Option, refl, sym, ap, option_map, unwrap_or}
use Rattle.std.proofs.lemmas.Bool.{false≢true}
use Rattle.std.proofs.lemmas.List.Folds.{list_any_more}
use Rattle.std.specs.Option.{option_or}
use Rattle.std.specs.Str.{bytes_eq}
use Rattle.jwt_validation.specs.Options.{Options, Texts, among}
use Rattle.jwt_command.specs.Requested.{AreRequested, IsBase, changed_options, texts_or, required_claims, strict_options_if}
use Rattle.jwt_requests.specs.declared.request.Checks.{Checks}

or_behind : (b a c : Bool) → (b || (a || c)) ≡ ((a || b) || c)
or_behind true true c = refl
or_behind true false c = refl
or_behind false true c = refl
or_behind false false c = refl

-- one more name
pub one_more : (names : List (Bor (List ℕ))) (i : ℕ) (d : Bor (List ℕ)) (t : List ℕ) (after before others : Bool)
    → i < length names
    → after ≡ (bytes_eq (get_or names i d).now t || before) → before ≡ (among (λ s. s.now) (take i names) t || others)
    → after ≡ (among (λ s. s.now) (take (i + 1) names) t || others)
one_more names i d t after before others range added held =
    added ∙ (ap (λ b. bytes_eq (get_or names i d).now t || b) held
    ∙ (or_behind (bytes_eq (get_or names i d).now t) (among (λ s. s.now) (take i names) t) others
    ∙ ap (λ b. b || others) (sym (list_any_more (λ s. bytes_eq s.now t) names i d range))))

pub left_out : (is_name b : Bool) → cond is_name false b ≡ (not (true && is_name) && b)
left_out true b = refl
left_out false b = refl

-- options that are not made strict
pub not_strict : (is_strict : Bool) (o : Options) → is_strict ≡ false → o ≡ strict_options_if is_strict o
not_strict true o off = absurd (false≢true (sym off))
not_strict false o off = refl

-- a file, made strict, then changed
pub requested : (c : Checks) (bytes : Option (List ℕ)) (file strict final : Options) → IsBase bytes file
    → strict ≡ strict_options_if c.is_strict file → final ≡ changed_options c strict → AreRequested c bytes final
requested c bytes file strict final base is_strict is_final =
    (file, base, is_final ∙ ap {A = Options} {B = Options} (changed_options c) is_strict)

-- names, then times, then required claims
pub changes : (c : Checks) (file named timed : Options) (claims : Texts)
    → named ≡ record file {
      aud = texts_or c.audiences file.aud;
      iss = texts_or c.issuers file.iss;
      sub = option_or (option_map (λ s. s.now) c.subject) file.sub;
      understood = unwrap_or (option_map (λ names. among (λ s. s.now) names.now) c.understood) file.understood;
      algorithms = unwrap_or (option_map (λ a. a.items) c.algorithms) file.algorithms;
    }
    → timed ≡ record named {
      leeway = unwrap_or c.leeway named.leeway;
      reject = unwrap_or c.not_within named.reject;
      checks_exp = not c.skips_exp && named.checks_exp;
      checks_nbf = c.checks_nbf || named.checks_nbf;
    }
    → ((t : List ℕ) → claims t ≡ required_claims c timed.required t)
    → record timed { required = claims } ≡ changed_options c file
changes c file named timed claims is_named is_timed is_required =
    (λ i. record timed { required = λ t. is_required t i })
    ∙ ap {A = Options} {B = Options} (λ o. record o { required = required_claims c o.required })
    (is_timed ∙ ap {A = Options} {B = Options} (λ o. record o {
      leeway = unwrap_or c.leeway o.leeway;
      reject = unwrap_or c.not_within o.reject;
      checks_exp = not c.skips_exp && o.checks_exp;
      checks_nbf = c.checks_nbf || o.checks_nbf;
    }) is_named)
