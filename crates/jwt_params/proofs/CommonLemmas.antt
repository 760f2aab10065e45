-- The common parameters, written and read again, are their normal form.
use Rattle.std.proofs.Common.{◌≡◌, ℕ, List, [], ◌∷◌, map, Option, Some, None, option_map, unwrap_or, codes, false, refl, ap}
use Rattle.serde_json.specs.Data.{Data, Members, string, object}
use Rattle.serde_json.specs.Find.{get, get_member}
use Rattle.serde_json.specs.Written.{members_have_float}
use Rattle.jwt_base.specs.Algorithm.{key_algorithm_from}
use Rattle.jwt_base.specs.Members.{optional, texts, without, put_some, texts_value}
use Rattle.jwt_base.specs.declared.algorithms.KeyAlgorithm.{KeyAlgorithm}
use Rattle.jwt_base.specs.declared.algorithms.KeyAlgorithm.TheVariants as key
use Rattle.jwt_base.proofs.FreeMembers.{no_float-put_some, no_float-texts_value}
use Rattle.jwt_base.proofs.MembersWritten.{absent, or_none, get_member-put_some, without-put_some, optional-string}
use Rattle.jwt_base.proofs.MembersWritten.{optional-texts_value}
use Rattle.jwt_base.proofs.NormalForms.{spelled_text, again_within, own_optional, own_named}
use Rattle.jwt_params.specs.Common.{common_names, ReadsCommon, key_algorithm_value, with_common, normal_common}
use Rattle.jwt_params.specs.Operation.{operation_text, operation_named, known_operations, operations_from}
use Rattle.jwt_params.specs.Operation.{operations_value, normal_operations}
use Rattle.jwt_params.specs.Use.{use_text, use_named, known_uses, use_from, use_value, normal_use}
use Rattle.jwt_params.specs.declared.common.CommonParameters.{CommonParameters}
use Rattle.jwt_params.specs.declared.operations.KeyOperations.{KeyOperations}
use Rattle.jwt_params.specs.declared.operations.KeyOperations.TheVariants as operation
use Rattle.jwt_params.specs.declared.uses.PublicKeyUse.{PublicKeyUse}
use Rattle.jwt_params.specs.declared.uses.PublicKeyUse.TheVariants as uses

-- at most one value of the common parameters is read from a JSON value
pub one_common : (d : Data) (c e : CommonParameters) → ReadsCommon d c → ReadsCommon d e → c ≡ e
one_common d c e r s =
    let public_key_use : c.public_key_use ≡ e.public_key_use = cc (r.public_key_use, s.public_key_use) in
    let key_operations : c.key_operations ≡ e.key_operations = cc (r.key_operations, s.key_operations) in
    let key_algorithm : c.key_algorithm ≡ e.key_algorithm = cc (r.key_algorithm, s.key_algorithm) in
    let key_id : c.key_id ≡ e.key_id = cc (r.key_id, s.key_id) in
    let x509_url : c.x509_url ≡ e.x509_url = cc (r.x509_url, s.x509_url) in
    let x509_chain : c.x509_chain ≡ e.x509_chain = cc (r.x509_chain, s.x509_chain) in
    let x509_sha1_fingerprint : c.x509_sha1_fingerprint ≡ e.x509_sha1_fingerprint =
    cc (r.x509_sha1_fingerprint, s.x509_sha1_fingerprint) in
    let x509_sha256_fingerprint : c.x509_sha256_fingerprint ≡ e.x509_sha256_fingerprint =
    cc (r.x509_sha256_fingerprint, s.x509_sha256_fingerprint) in
    λ i. record {
      public_key_use = public_key_use i;
      key_operations = key_operations i;
      key_algorithm = key_algorithm i;
      key_id = key_id i;
      x509_url = x509_url i;
      x509_chain = x509_chain i;
      x509_sha1_fingerprint =
          x509_sha1_fingerprint i;
      x509_sha256_fingerprint = x509_sha256_fingerprint i;
    }

use_kept : (s : List ℕ) → use_text (use_named s) ≡ s
use_kept s = spelled_text use_text known_uses s (uses.Other s) refl

operation_kept : (s : List ℕ) → operation_text (operation_named s) ≡ s
operation_kept s = spelled_text operation_text known_operations s (operation.Other s) refl

operations_kept : (ss : List (List ℕ)) → map operation_text (map operation_named ss) ≡ ss
operations_kept [] = refl
operations_kept (s ∷ ss) = λ i. operation_kept s i ∷ operations_kept ss i

optional-use_value : (o : Option PublicKeyUse) → optional use_from (option_map use_value o) ≡ Some (option_map normal_use o)
optional-use_value None = refl
optional-use_value (Some u) = refl

texts_back : (o : Option (List (List ℕ))) (ss : List (List ℕ)) → option_map Some o ≡ Some (Some ss) → o ≡ Some ss
texts_back None ss e = absurd (cc)
texts_back (Some ts) ss e = ap (λ o. unwrap_or o (Some ts)) e

-- a list of operations reads as its normal form
pub operations_read_back : (os : List KeyOperations) → operations_from (operations_value os) ≡ Some (normal_operations os)
operations_read_back os =
    let ss = map operation_text os in
    ap (option_map (map operation_named)) (texts_back (texts (texts_value ss)) ss (optional-texts_value (Some ss)))

optional-operations_value : (o : Option (List KeyOperations)) → optional operations_from (option_map operations_value o)
    ≡ Some (option_map normal_operations o)
optional-operations_value None = refl
optional-operations_value (Some os) = ap (option_map Some) (operations_read_back os)

optional-key_algorithm_value : (o : Option KeyAlgorithm)
    → optional key_algorithm_from (option_map key_algorithm_value o) ≡ Some o
optional-key_algorithm_value None = refl
optional-key_algorithm_value (Some key.HS256) = refl
optional-key_algorithm_value (Some key.HS384) = refl
optional-key_algorithm_value (Some key.HS512) = refl
optional-key_algorithm_value (Some key.RS256) = refl
optional-key_algorithm_value (Some key.RS384) = refl
optional-key_algorithm_value (Some key.RS512) = refl
optional-key_algorithm_value (Some key.PS256) = refl
optional-key_algorithm_value (Some key.PS384) = refl
optional-key_algorithm_value (Some key.PS512) = refl
optional-key_algorithm_value (Some key.ES256) = refl
optional-key_algorithm_value (Some key.ES384) = refl
optional-key_algorithm_value (Some key.EdDSA) = refl
optional-key_algorithm_value (Some key.RSA1_5) = refl
optional-key_algorithm_value (Some key.RSA_OAEP) = refl
optional-key_algorithm_value (Some key.RSA_OAEP_256) = refl
optional-key_algorithm_value (Some key.UNKNOWN_ALGORITHM) = refl

own_operations_at : (o : Option (List (List ℕ))) (os : List KeyOperations) → option_map (map operation_named) o
    ≡ Some os → normal_operations os ≡ os
own_operations_at None os e = absurd (cc)
own_operations_at (Some ss) os e = let is : map operation_named ss ≡ os = ap (λ o. unwrap_or o os) e in
    rw (← is) (ap (map operation_named) (operations_kept ss))

own_operations : (d : Data) (os : List KeyOperations) → operations_from d ≡ Some os → normal_operations os ≡ os
own_operations d os e = own_operations_at (texts d) os e

-- members that have none of the eight names
abbrev pub IsFree : Members → Type 0
IsFree ms = without common_names ms ≡ ms

get-use : (c : CommonParameters) (ms : Members) → IsFree ms → get_member (codes "use") (with_common c ms)
    ≡ option_map use_value c.public_key_use
get-use c ms free = simp (get_member-put_some, absent common_names ms free (codes "use") refl, or_none)

get-operations : (c : CommonParameters) (ms : Members) → IsFree ms → get_member (codes "key_ops") (with_common c ms)
    ≡ option_map operations_value c.key_operations
get-operations c ms free = simp (get_member-put_some, absent common_names ms free (codes "key_ops") refl, or_none)

get-algorithm : (c : CommonParameters) (ms : Members) → IsFree ms → get_member (codes "alg") (with_common c ms)
    ≡ option_map key_algorithm_value c.key_algorithm
get-algorithm c ms free = simp (get_member-put_some, absent common_names ms free (codes "alg") refl, or_none)

get-kid : (c : CommonParameters) (ms : Members) → IsFree ms → get_member (codes "kid") (with_common c ms)
    ≡ option_map string c.key_id
get-kid c ms free = simp (get_member-put_some, absent common_names ms free (codes "kid") refl, or_none)

get-x5u : (c : CommonParameters) (ms : Members) → IsFree ms → get_member (codes "x5u") (with_common c ms)
    ≡ option_map string c.x509_url
get-x5u c ms free = simp (get_member-put_some, absent common_names ms free (codes "x5u") refl, or_none)

get-x5c : (c : CommonParameters) (ms : Members) → IsFree ms → get_member (codes "x5c") (with_common c ms)
    ≡ option_map texts_value c.x509_chain
get-x5c c ms free = simp (get_member-put_some, absent common_names ms free (codes "x5c") refl, or_none)

get-x5t : (c : CommonParameters) (ms : Members) → IsFree ms → get_member (codes "x5t") (with_common c ms)
    ≡ option_map string c.x509_sha1_fingerprint
get-x5t c ms free = simp (get_member-put_some, absent common_names ms free (codes "x5t") refl, or_none)

get-x5t_s256 : (c : CommonParameters) (ms : Members) → IsFree ms → get_member (codes "x5t#S256") (with_common c ms)
    ≡ option_map string c.x509_sha256_fingerprint
get-x5t_s256 c ms free = simp (get_member-put_some, absent common_names ms free (codes "x5t#S256") refl, or_none)

pub without-with_common : (c : CommonParameters) (ms : Members) → IsFree ms → without common_names (with_common c ms) ≡ ms
without-with_common c ms free =
    let none = without-put_some common_names in
    simp (
      none (codes "use") refl,
      none (codes "key_ops") refl,
      none (codes "alg") refl,
      none (codes "kid") refl,
      none (codes "x5u") refl,
      none (codes "x5c") refl,
      none (codes "x5t") refl,
      none (codes "x5t#S256") refl,
    ) free

-- parameters that were put among free members are read as their normal form
pub reads_with_common : (c : CommonParameters) (ms : Members) → IsFree ms
    → ReadsCommon (object (with_common c ms)) (normal_common c)
reads_with_common c ms free = record {
  an_object = refl;
  public_key_use = rw (get-use c ms free) (optional-use_value c.public_key_use);
  key_operations = rw (get-operations c ms free) (optional-operations_value c.key_operations);
  key_algorithm = rw (get-algorithm c ms free) (optional-key_algorithm_value c.key_algorithm);
  key_id = rw (get-kid c ms free) (optional-string c.key_id);
  x509_url = rw (get-x5u c ms free) (optional-string c.x509_url);
  x509_chain = rw (get-x5c c ms free) (optional-texts_value c.x509_chain);
  x509_sha1_fingerprint = rw (get-x5t c ms free) (optional-string c.x509_sha1_fingerprint);
  x509_sha256_fingerprint = rw (get-x5t_s256 c ms free) (optional-string c.x509_sha256_fingerprint);
}

-- parameters that were read are their own normal form
pub common_is_normal : (d : Data) (c : CommonParameters) → ReadsCommon d c → normal_common c ≡ c
common_is_normal d c r =
    let public_key_use = own_optional use_from normal_use (own_named use_text use_named use_kept)
    (get (codes "use") d) c.public_key_use r.public_key_use in
    let key_operations = own_optional operations_from normal_operations own_operations (get (codes "key_ops") d)
    c.key_operations r.key_operations in
    λ i. record c { public_key_use = public_key_use i; key_operations = key_operations i }

pub common_twice : (c : CommonParameters) → normal_common (normal_common c) ≡ normal_common c
common_twice c =
    let public_key_use = again_within normal_use (λ u. ap use_named (use_kept (use_text u))) c.public_key_use in
    let key_operations = again_within normal_operations
    (λ os. ap (map operation_named) (operations_kept (map operation_text os))) c.key_operations in
    λ i. record (normal_common c) { public_key_use = public_key_use i; key_operations = key_operations i }

-- members without a float
abbrev Whole : Type 0
Whole = (ms : Members) × (members_have_float ms ≡ false)

abbrev with_text : List ℕ → Option (List ℕ) → Whole → Whole
with_text k o w = (put_some k (option_map string o) w.0, no_float-put_some string (λ s. refl) k o w.0 w.1)

abbrev with_chain : Option (List (List ℕ)) → Whole → Whole
with_chain o w = (
  put_some (codes "x5c") (option_map texts_value o) w.0,
  no_float-put_some texts_value no_float-texts_value (codes "x5c") o w.0 w.1,
)

abbrev with_algorithm : Option KeyAlgorithm → Whole → Whole
with_algorithm o w = (
  put_some (codes "alg") (option_map key_algorithm_value o) w.0,
  no_float-put_some key_algorithm_value (λ a. refl) (codes "alg") o w.0 w.1,
)

abbrev with_operations : Option (List KeyOperations) → Whole → Whole
with_operations o w = (
  put_some (codes "key_ops") (option_map operations_value o) w.0,
  no_float-put_some operations_value (λ os. no_float-texts_value (map operation_text os)) (codes "key_ops") o w.0 w.1,
)

abbrev whole_members : CommonParameters → Whole → Whole
whole_members c w =
    with_operations c.key_operations (
    with_algorithm c.key_algorithm (
    with_text (codes "kid") c.key_id (
    with_text (codes "x5u") c.x509_url (
    with_chain c.x509_chain (
    with_text (codes "x5t") c.x509_sha1_fingerprint (
    with_text (codes "x5t#S256") c.x509_sha256_fingerprint w))))))

-- they add no float
pub common_no_float : (c : CommonParameters) (ms : Members) → members_have_float ms ≡ false
    → members_have_float (with_common c ms) ≡ false
common_no_float c ms none =
    let w = whole_members c (ms, none) in
    no_float-put_some use_value (λ u. refl) (codes "use") c.public_key_use w.0 w.1
