use Rattle.std.proofs.Common.{List, take, drop}
use Rattle.serde_json.specs.View.{items_view}
use Rattle.jwt_keys.specs.JwkSet.{ReadsKeys}
use Rattle.jwt_keys.specs.declared.jwk.Jwk.{Jwk}
use Rattle.jwt_keys.proofs.jwk_set.read_keys.Given as goal

abbrev pub invariant-loop-item : goal.invariant-loop-item
invariant-loop-item l = record {
  so_far : ReadsKeys (items_view (take l.item-index l.items)) l.keys.items;
  left : (ks : List Jwk) → ReadsKeys (items_view l.items) ks
      → (more : List Jwk) × ReadsKeys (items_view (drop l.item-index l.items)) more;
}
