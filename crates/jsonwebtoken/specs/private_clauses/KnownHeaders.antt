-- For private clauses: the header parts that are known by their texts.
use Rattle.std.specs.Prelude.{◌≡◌, ℕ, List, Some}
use Rattle.serde_json.specs.Data.{Data}
use Rattle.serde_json.specs.Written.{compact_text}
use Rattle.jwt_base.specs.Base64Url.{IsPart}
use Rattle.jwt_base.specs.JsonText.{IsJson}
use Rattle.jwt_base.specs.declared.algorithms.Algorithm.{Algorithm}
use Rattle.jwt_header.specs.Header.{ReadsHeader, new_header, header_value}

-- the part stands for the header with the algorithm and the type `JWT` alone, and that header is
-- written as it (RFC 7519 section 5.1)
pub record IsKnownHeader (part : List ℕ) (a : Algorithm) : Type 0 where
  pub bytes : List ℕ
  pub value : Data
  pub is_part : IsPart part bytes
  pub is_json : IsJson bytes value
  pub reads : ReadsHeader value (new_header a)
  pub written : header_value (new_header a) ≡ Some value
  pub is_compact : bytes ≡ compact_text value
