-- How a header is read from a JSON value (RFC 7515 section 4.1, RFC 7516 section 4.1, RFC 8555
-- section 6), and how it is written.
use Rattle.std.specs.Prelude.{◌≡◌, false, Option, Some, None, option_map, option_and_then, codes}
use Rattle.serde_json.specs.Data.{Data, string, object, Members, no_members, put}
use Rattle.serde_json.specs.Find.{get, as_str, as_object}
use Rattle.serde_json.specs.Written.{members_have_float}
use Rattle.jwt_base.specs.Algorithm.{name_of, algorithm_from}
use Rattle.jwt_base.specs.DataEq.{members_marked}
use Rattle.jwt_base.specs.Members.{optional, ReadsOptional, texts, texts_value, without, put_some, written_optional}
use Rattle.jwt_base.specs.declared.algorithms.Algorithm.{Algorithm}
use Rattle.jwt_header.specs.Enc.{enc_from, enc_value}
use Rattle.jwt_header.specs.Extras.{header_names}
use Rattle.jwt_header.specs.Zip.{zip_from, zip_value}
use Rattle.jwt_header.specs.declared.header.Header.{Header}
use Rattle.jwt_keys.specs.Jwk.{ReadsKey, key_value, marked_key}

-- d is an object, each name gives its field, the other members are the extras, and no float is among them
pub record ReadsHeader (d : Data) (h : Header) : Type 0 where
  pub alg : option_and_then algorithm_from (get (codes "alg") d) ≡ Some h.alg
  pub typ : optional as_str (get (codes "typ") d) ≡ Some h.typ
  pub cty : optional as_str (get (codes "cty") d) ≡ Some h.cty
  pub jku : optional as_str (get (codes "jku") d) ≡ Some h.jku
  pub jwk : ReadsOptional ReadsKey (get (codes "jwk") d) h.jwk
  pub kid : optional as_str (get (codes "kid") d) ≡ Some h.kid
  pub x5u : optional as_str (get (codes "x5u") d) ≡ Some h.x5u
  pub x5t : optional as_str (get (codes "x5t") d) ≡ Some h.x5t
  pub x5t_s256 : optional as_str (get (codes "x5t#S256") d) ≡ Some h.x5t_s256
  pub url : optional as_str (get (codes "url") d) ≡ Some h.url
  pub nonce : optional as_str (get (codes "nonce") d) ≡ Some h.nonce
  pub x5c : optional texts (get (codes "x5c") d) ≡ Some h.x5c
  pub crit : optional texts (get (codes "crit") d) ≡ Some h.crit
  pub enc : optional enc_from (get (codes "enc") d) ≡ Some h.enc
  pub zip : optional zip_from (get (codes "zip") d) ≡ Some h.zip
  pub extras : option_map (without header_names) (as_object d) ≡ Some h.extras
  pub no_float : members_have_float h.extras ≡ false

-- the algorithm, the type `JWT`, and nothing else
abbrev pub new_header : Algorithm → Header
new_header a = record {
  alg = a;
  typ = Some (codes "JWT");
  cty = None;
  jku = None;
  jwk = None;
  kid = None;
  x5u = None;
  x5t = None;
  x5t_s256 = None;
  url = None;
  nonce = None;
  x5c = None;
  crit = None;
  enc = None;
  zip = None;
  extras =
      no_members;
}

-- the members that are present, except for the key, besides these
abbrev pub with_named : Header → Members → Members
with_named h ms =
    put (codes "alg") (string (name_of h.alg)) (
    put_some (codes "typ") (option_map string h.typ) (
    put_some (codes "cty") (option_map string h.cty) (
    put_some (codes "jku") (option_map string h.jku) (
    put_some (codes "kid") (option_map string h.kid) (
    put_some (codes "x5u") (option_map string h.x5u) (
    put_some (codes "x5t") (option_map string h.x5t) (
    put_some (codes "x5t#S256") (option_map string h.x5t_s256) (
    put_some (codes "url") (option_map string h.url) (
    put_some (codes "nonce") (option_map string h.nonce) (
    put_some (codes "x5c") (option_map texts_value h.x5c) (
    put_some (codes "crit") (option_map texts_value h.crit) (
    put_some (codes "enc") (option_map enc_value h.enc) (
    put_some (codes "zip") (option_map zip_value h.zip) ms)))))))))))))

-- the members that are present; None if the key cannot be written
abbrev pub header_members : Header → Option Members
header_members h = option_map (λ jwk. with_named h (put_some (codes "jwk") jwk h.extras)) (written_optional key_value h.jwk)

-- the value that the header is written as
abbrev pub header_value : Header → Option Data
header_value h = option_map object (header_members h)

-- the header with one mark in place of each float
abbrev pub marked_header : Header → Header
marked_header h = record h { jwk = option_map marked_key h.jwk; extras = members_marked h.extras }
