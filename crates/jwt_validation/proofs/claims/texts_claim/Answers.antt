use Rattle.std.proofs.Common.{◌≡◌, rules, sym, ◌∙◌, Some, true, false}
use Rattle.serde_json.specs.Data.{array}
use Rattle.serde_json.specs.Find.{get}
use Rattle.serde_json.specs.View.{view, items_view}
use Rattle.serde_json.specs.declared.value.Value.{the_lemmas}
use Rattle.jwt_validation.proofs.TextsAmong.{are_texts, texts_in-texts, texts_in-others}
use Rattle.jwt_validation.proofs.claims.texts_claim.Goals as goal

pub returns-then-are_texts : goal.returns-then-are_texts
returns-then-are_texts c =
    let is_array : view c.in-Some.value.now ≡ array (items_view c.in-Array.items.items) = search (rules, the_lemmas) in
    let found : get c.args.name.now (view c.args.claims.now) ≡ Some (view c.in-Some.value.now) = search rules in
    let ok : are_texts c.in-Array.items.items ≡ true = rw (← c.deref.ensures.value) (sym c.are_texts.ensures
    ∙ c.if-are_texts.true) in
    rw c.as_slice.ensures.value (texts_in-texts _ _ c.in-Array.items.items found is_array ok)

pub returns-else-are_texts : goal.returns-else-are_texts
returns-else-are_texts c =
    let is_array : view c.in-Some.value.now ≡ array (items_view c.in-Array.items.items) = search (rules, the_lemmas) in
    let found : get c.args.name.now (view c.args.claims.now) ≡ Some (view c.in-Some.value.now) = search rules in
    let ok : are_texts c.in-Array.items.items ≡ false = rw (← c.deref.ensures.value) (sym c.are_texts.ensures
    ∙ c.if-are_texts.false) in
    texts_in-others _ _ c.in-Array.items.items found is_array ok
