use Rattle.std.proofs.Common.{◌≡◌, sym, ◌∙◌, append_assoc, append-nil, chars, rules, string_bytes, tests}
use Rattle.std.proofs.lemmas.Iterator.{YieldsList-from_chars}
use Rattle.std.proofs.lemmas.Iterator.Search.{any_from_yields_List}
use Rattle.std.proofs.lemmas.Str.{IsUtf8-past_char, IsUtf8-string_bytes}
use Rattle.std.specs.List.{list_any}
use Rattle.std.specs.Str.Iter.{chars_rest}
use Rattle.jwt_findings.proofs.Escaped.{escaped_empty, escaped_same, escaped_step}
use Rattle.jwt_findings.specs.Escapes.{is_to_escape}
use Rattle.jwt_findings.proofs.escapes.escape_unseen.Goals as goal

pub loop-character-preserved : goal.loop-character-preserved
loop-character-preserved c =
    let held = c.loop-character.invariant in
    let parts = c.in-Some.ensures.steps.0 in
    let step = escaped_step _ _ c.in-Some.character held.0 parts in
    (IsUtf8-past_char _ _ c.in-Some.character held.0 parts, rw (c.in_ok-push_seen.ensures, append_assoc) (rw step at held.1))

pub returns : goal.returns
returns c = sym (append-nil _) ∙ rw (escaped_empty (chars_rest c.loop-character.character-iterator) c.in-None.ensures.steps.0.0) at c.loop-character.invariant.1

pub returns-then-not-any : goal.returns-then-not-any
returns-then-not-any c =
    let text = string_bytes c.args.text in
    let utf8 = IsUtf8-string_bytes c.args.text in
    let any : c.any.result ≡ list_any is_to_escape (chars text) =
    any_from_yields_List is_to_escape _ _ c.any.result c.any.ensures.ran
    (YieldsList-from_chars text utf8 (c.chars.ensures.rest ∙ c.deref.ensures)) (λ x b q k. search (rules, tests)) in
    sym (escaped_same text utf8 (sym any ∙ c.if-not-any.true))
