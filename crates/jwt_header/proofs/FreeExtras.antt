-- Members that may stand among the extras.
use Rattle.std.proofs.Common.{◌≡◌, ℕ, List, false}
use Rattle.serde_json.specs.Data.{Data, Members, put}
use Rattle.serde_json.specs.Written.{has_float}
use Rattle.jwt_base.specs.Members.{is_named}
use Rattle.jwt_base.proofs.FreeMembers.{has_named-put, no_float-put}
use Rattle.jwt_header.specs.Extras.{header_names, IsExtras}

-- a value with no float, at a name of its own, may stand among the extras
pub extras-put : (k : List ℕ) (d : Data) (ms : Members) → is_named header_names k ≡ false → has_float d ≡ false
    → IsExtras ms → IsExtras (put k d ms)
extras-put k d ms free none x = record {
  free = has_named-put header_names k d ms free x.free;
  no_float = no_float-put k d ms none x.no_float;
}
