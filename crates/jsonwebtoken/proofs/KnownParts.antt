-- The texts of the header parts that are known, computed.
use Rattle.std.proofs.Common.{◌≡◌, refl, ℕ, List, true, Some, codes}
use Rattle.std.specs.Prelude.{ltb}
use Rattle.std.specs.List.{list_all}
use Rattle.std.proofs.lemmas.Str.{IsUtf8-from_ascii}
use Rattle.base64.proofs.OnLiterals.{base64_on_literals}
use Rattle.base64.specs.Rfc4648.{encode_symbols}
use Rattle.serde_json.specs.Data.{Data, object, string, put, no_members}
use Rattle.serde_json.specs.Read.{read}
use Rattle.serde_json.specs.Written.{compact_text}
use Rattle.serde_json.proofs.OnLiterals.{serde_json_on_literals}
use Rattle.jwt_base.specs.Algorithm.{name_of}
use Rattle.jwt_base.specs.Base64Url.{url_characters}
use Rattle.jwt_base.specs.declared.algorithms.Algorithm.{Algorithm}
use Rattle.jwt_base.specs.declared.algorithms.Algorithm.TheVariants.{HS256, RS256, ES256, EdDSA}
use Rattle.jwt_header.specs.Header.{new_header, header_value}
use Rattle.jwt_header.specs.HeaderWritten.{HasNormalForm}
use Rattle.jwt_header.proofs.HeaderLemmas.{reads_written, has_normal_form}
use Rattle.jsonwebtoken.specs.private_clauses.KnownHeaders.{IsKnownHeader}
use Rattle.jsonwebtoken.proofs.Ascii.{ascii, bytes_of}

abbrev value_of : Algorithm → Data
value_of a = object (put (codes "alg") (string (name_of a)) (put (codes "typ") (string (codes "JWT")) no_members))

computed : (a : Algorithm) (part bytes : List ℕ) (value : Data) → list_all (λ b. ltb b 128) bytes ≡ true
    → part ≡ encode_symbols url_characters bytes → read bytes ≡ Some value → header_value (new_header a) ≡ Some value
    → bytes ≡ compact_text value → IsKnownHeader part a
computed a part bytes value small is_text is_read written is_compact =
    let s = ascii bytes small in record {
      bytes = bytes;
      value = value;
      is_part = (bytes_of bytes s, is_text);
      is_json = (IsUtf8-from_ascii bytes s, is_read);
      reads = reads_written (new_header a) value (record { free = refl; no_float = refl }) written;
      written = written;
      is_compact = is_compact;
    }

pub usual_hs256 : IsKnownHeader (codes "eyJhbGciOiJIUzI1NiIsInR5cCI6IkpXVCJ9") HS256
unfolding base64_on_literals serde_json_on_literals
usual_hs256 = computed HS256 _ (codes "{\"alg\":\"HS256\",\"typ\":\"JWT\"}") (value_of HS256) refl refl refl refl refl

pub usual_rs256 : IsKnownHeader (codes "eyJhbGciOiJSUzI1NiIsInR5cCI6IkpXVCJ9") RS256
unfolding base64_on_literals serde_json_on_literals
usual_rs256 = computed RS256 _ (codes "{\"alg\":\"RS256\",\"typ\":\"JWT\"}") (value_of RS256) refl refl refl refl refl

pub usual_es256 : IsKnownHeader (codes "eyJhbGciOiJFUzI1NiIsInR5cCI6IkpXVCJ9") ES256
unfolding base64_on_literals serde_json_on_literals
usual_es256 = computed ES256 _ (codes "{\"alg\":\"ES256\",\"typ\":\"JWT\"}") (value_of ES256) refl refl refl refl refl

pub usual_eddsa : IsKnownHeader (codes "eyJhbGciOiJFZERTQSIsInR5cCI6IkpXVCJ9") EdDSA
unfolding base64_on_literals serde_json_on_literals
usual_eddsa = computed EdDSA _ (codes "{\"alg\":\"EdDSA\",\"typ\":\"JWT\"}") (value_of EdDSA) refl refl refl refl refl

pub new_has_normal_form : (a : Algorithm) → HasNormalForm (new_header a)
new_has_normal_form a = has_normal_form (new_header a) (record { free = refl; no_float = refl })
