use Rattle.std.proofs.Common.{◌≡◌, Bool, true, false, cond, ◌||◌, refl, ◌∙◌, rules}
use Rattle.std.specs.Str.{bytes_eq}
use Rattle.std.specs.String.{string_bytes}
use Rattle.std.specs.HashSet.{contains_text}
use Rattle.std.proofs.lemmas.Map.Text.{hash_set_updates_text}
use Rattle.jwt_command.proofs.verify.options.require.Goals as goal

or_from_cond : (a b : Bool) → cond a true b ≡ (a || b)
or_from_cond true b = refl
or_from_cond false b = refl

pub returns : goal.returns
returns c = λ t.
    let same : string_bytes c.in_ok-from_str.field-0 ≡ c.args.name.now = search rules in
    let after : contains_text c.insert.new.self t ≡ cond (bytes_eq (string_bytes c.in_ok-from_str.field-0) t) true
    (contains_text c.args.claims.now t) =
    hash_set_updates_text (string_bytes c.in_ok-from_str.field-0) c.args.claims.now c.insert.new.self true
    c.in_ok-insert.ensures.updates t in
    (rw same at after) ∙ or_from_cond (bytes_eq c.args.name.now t) (contains_text c.args.claims.now t)
