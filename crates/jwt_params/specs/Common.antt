-- The parameters that keys of every type may have (RFC 7517 section 4): how they are read from a
-- JSON value, and how they are written.
-- Members are fields of a record, and not rows. A list of rows (name, reading, written value) was tried: one lemma
-- each way proved at once for any rows. But the general part is longer than what it saves in two records, and a fact
-- of a field loses its name: another order of the rows would silently change which one is meant.
use Rattle.std.specs.Prelude.{◌≡◌, IsTrue, ℕ, List, [], ◌∷◌, Some, None, option_map, is_some, codes}
use Rattle.serde_json.specs.Data.{Data, string, object, Members, no_members}
use Rattle.serde_json.specs.Find.{get, as_str, as_object}
use Rattle.jwt_base.specs.Algorithm.{key_name_of, key_algorithm_from}
use Rattle.jwt_base.specs.Members.{optional, texts, texts_value, put_some}
use Rattle.jwt_base.specs.declared.algorithms.KeyAlgorithm.{KeyAlgorithm}
use Rattle.jwt_params.specs.Operation.{operations_from, operations_value, normal_operations}
use Rattle.jwt_params.specs.Use.{use_from, use_value, normal_use}
use Rattle.jwt_params.specs.declared.common.CommonParameters.{CommonParameters}

abbrev pub common_names : List (List ℕ)
common_names = codes "use" ∷ codes "key_ops" ∷ codes "alg" ∷ codes "kid" ∷ codes "x5u" ∷ codes "x5c" ∷ codes "x5t"
    ∷ codes "x5t#S256" ∷ []

-- no parameters
abbrev pub no_common : CommonParameters
no_common = record {
  public_key_use = None;
  key_operations = None;
  key_algorithm = None;
  key_id = None;
  x509_url = None;
  x509_chain = None;
  x509_sha1_fingerprint = None;
  x509_sha256_fingerprint = None;
}

-- d is an object, and each of the eight names gives its field
pub record ReadsCommon (d : Data) (c : CommonParameters) : Type 0 where
  pub an_object : IsTrue (is_some (as_object d))
  pub public_key_use : optional use_from (get (codes "use") d) ≡ Some c.public_key_use
  pub key_operations : optional operations_from (get (codes "key_ops") d) ≡ Some c.key_operations
  pub key_algorithm : optional key_algorithm_from (get (codes "alg") d) ≡ Some c.key_algorithm
  pub key_id : optional as_str (get (codes "kid") d) ≡ Some c.key_id
  pub x509_url : optional as_str (get (codes "x5u") d) ≡ Some c.x509_url
  pub x509_chain : optional texts (get (codes "x5c") d) ≡ Some c.x509_chain
  pub x509_sha1_fingerprint : optional as_str (get (codes "x5t") d) ≡ Some c.x509_sha1_fingerprint
  pub x509_sha256_fingerprint : optional as_str (get (codes "x5t#S256") d) ≡ Some c.x509_sha256_fingerprint

abbrev pub key_algorithm_value : KeyAlgorithm → Data
key_algorithm_value a = string (key_name_of a)

-- the members, and those of the eight that are present
abbrev pub with_common : CommonParameters → Members → Members
with_common c ms =
    put_some (codes "use") (option_map use_value c.public_key_use) (
    put_some (codes "key_ops") (option_map operations_value c.key_operations) (
    put_some (codes "alg") (option_map key_algorithm_value c.key_algorithm) (
    put_some (codes "kid") (option_map string c.key_id) (
    put_some (codes "x5u") (option_map string c.x509_url) (
    put_some (codes "x5c") (option_map texts_value c.x509_chain) (
    put_some (codes "x5t") (option_map string c.x509_sha1_fingerprint) (
    put_some (codes "x5t#S256") (option_map string c.x509_sha256_fingerprint) ms)))))))

abbrev pub common_value : CommonParameters → Data
common_value c = object (with_common c no_members)

-- a free string that is a known spelling becomes the known value
abbrev pub normal_common : CommonParameters → CommonParameters
normal_common c = record c {
  public_key_use = option_map normal_use c.public_key_use;
  key_operations = option_map normal_operations c.key_operations;
}
