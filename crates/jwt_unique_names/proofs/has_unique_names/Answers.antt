use Rattle.std.proofs.Common.{sym, subst}
use Rattle.std.specs.Prelude.{◌↔◌, IsTrue, IsSomeAnd}
use Rattle.json.specs.Json.{document}
use Rattle.json.specs.Strict.{HasUniqueKeys}
use Rattle.serde_json.specs.View.{view}
use Rattle.jwt_unique_names.specs.private_clauses.Counts.{count}
use Rattle.jwt_unique_names.proofs.Texts.{Counted, members_are_colons, none_left}
use Rattle.jwt_unique_names.proofs.has_unique_names.Goals as goal

pub returns : goal.returns
returns c read =
    let unique = IsSomeAnd (document c.args.text.now) HasUniqueKeys in
    let n = count (view c.args.value.now) in
    let facts = subst (λ w. Counted n w unique) (sym c.colons.ensures) (members_are_colons c.args.text.now (view c.args.value.now) read) in
    subst (λ b. IsTrue b ↔ unique) (sym c.eq.ensures) (none_left c.left_after.result n c.colons.result unique c.left_after.ensures.some c.left_after.ensures.none facts)
