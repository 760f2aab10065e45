-- A token in parts as JSON (RFC 7515 section 7.2.2).
use Rattle.std.specs.Prelude.{◌≡◌, Some, codes, string_bytes}
use Rattle.serde_json.specs.Data.{Data, string, object, no_members, put}
use Rattle.jwt_base.specs.Members.{text_at}
use Rattle.jsonwebtoken.specs.declared.jws.Jws.{Jws}
use Rattle.jsonwebtoken.specs.Tests.{Parts}

-- the parts of a token (RFC 7515 section 7.2.2)
abbrev pub parts_of : {C : Type 0} → Jws C → Parts
parts_of j = record {
  header = string_bytes j.protected;
  payload = string_bytes j.payload;
  signature = string_bytes j.signature;
}

-- the value has the three strings; its other members are ignored (RFC 7515 section 7.2.2)
pub record ReadsParts (d : Data) (p : Parts) : Type 0 where
  pub header : text_at (codes "protected") d ≡ Some p.header
  pub payload : text_at (codes "payload") d ≡ Some p.payload
  pub signature : text_at (codes "signature") d ≡ Some p.signature

-- the object of the three strings (RFC 7515 section 7.2.2)
abbrev pub parts_value : Parts → Data
parts_value p = object (put (codes "payload") (string p.payload)
    (put (codes "protected") (string p.header)
    (put (codes "signature") (string p.signature) no_members)))
