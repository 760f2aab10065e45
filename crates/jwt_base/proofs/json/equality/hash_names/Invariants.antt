use Rattle.std.proofs.Common.{◌≡◌, fold}
use Rattle.serde_json.specs.View.{members_view}
use Rattle.jwt_base.specs.equality.NamesFed.{names_fed}
use Rattle.jwt_base.proofs.json.equality.hash_names.Given as goal

abbrev pub invariant-loop-name : goal.invariant-loop-name
invariant-loop-name g l = fold g.H.Hasher.write l.initial.state (names_fed (members_view l.initial.name-iterator))
    ≡ fold g.H.Hasher.write l.state (names_fed (members_view l.name-iterator))
