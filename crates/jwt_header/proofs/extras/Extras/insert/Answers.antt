use Rattle.std.proofs.Common.{◌≡◌, false, rules}
use Rattle.serde_json.specs.View.{view}
use Rattle.serde_json.specs.Written.{has_float}
use Rattle.jwt_header.specs.Extras.{header_names}
use Rattle.jwt_base.specs.Members.{is_named}
use Rattle.jwt_header.proofs.FreeExtras.{extras-put}
use Rattle.jwt_header.proofs.extras.Extras.insert.Goals as goal

pub invariant_of-self-2 : goal.invariant_of-self-2
invariant_of-self-2 g c =
    let free : is_named header_names c.args.key.now ≡ false = search rules in
    let none : has_float (view c.in_ok-value.value) ≡ false = search rules in
    rw c.in_ok-put.ensures.ok (extras-put _ _ _ free none c.self.invariant)
