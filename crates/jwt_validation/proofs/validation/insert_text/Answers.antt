use Rattle.std.proofs.Common.{◌≡◌, Bool, true, false, cond, ◌||◌, refl, ◌∙◌, rules}
use Rattle.std.specs.Str.{bytes_eq}
use Rattle.std.specs.String.{string_bytes}
use Rattle.std.specs.HashSet.{contains_text}
use Rattle.std.proofs.lemmas.Map.Text.{hash_set_updates_text}
use Rattle.jwt_validation.proofs.validation.insert_text.Goals as goal

or_from_cond : (a b : Bool) → cond a true b ≡ (a || b)
or_from_cond true b = refl
or_from_cond false b = refl

pub returns-clause-ok : goal.returns-clause-ok
returns-clause-ok c = λ t.
    let same : string_bytes c.in_ok-from_str.field-0 ≡ c.args.text.now = search rules in
    let after : contains_text c.insert.new.self t ≡ cond (bytes_eq (string_bytes c.in_ok-from_str.field-0) t) true
    (contains_text c.args.set.now t) = hash_set_updates_text (string_bytes c.in_ok-from_str.field-0) c.args.set.now
    c.insert.new.self true c.in_ok-insert.ensures.updates t in
    (rw same at after) ∙ or_from_cond (bytes_eq c.args.text.now t) (contains_text c.args.set.now t)
