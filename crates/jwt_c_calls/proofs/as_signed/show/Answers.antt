use Rattle.std.proofs.Common.{inr, refl, rules}
use Rattle.serde_json.specs.View.{view}
use Rattle.jwt_c_calls.proofs.Shallow.{shallow}
use Rattle.jwt_c_calls.proofs.as_signed.show.Goals as goal

pub returns : goal.returns
returns c json =
    let flat = shallow c.args.bytes.items (view c.args.value.now) json in
    let told = rw c.as_slice.ensures.value at c.has_unique_names.ensures in
    let text = c.in_ok-to_vec.ensures in
    inr (
      λ unique. let is = (told json).1 unique.1 in search rules,
      record { json = (text.utf8, text.reads_back flat); compact = text.compact; order = text.order; exact = text.text },
      refl,
    )
