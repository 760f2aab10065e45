-- Bytes that are not UTF-8 are not the name of an algorithm.
use Rattle.std.proofs.Common.{◌≡◌, ℕ, List, [], ◌∷◌, Bool, true, false, cond, bytes_eq, Option, Some, None, refl}
use Rattle.std.specs.Str.{IsUtf8}
use Rattle.std.proofs.lemmas.Str.{IsUtf8-from_ascii}
use Rattle.jwt_base.specs.Algorithm.{all_algorithms, algorithm_named, name_of}
use Rattle.jwt_base.specs.Spelling.{spelled}
use Rattle.jwt_base.specs.declared.algorithms.Algorithm.{Algorithm}
use Rattle.jwt_base.specs.declared.algorithms.Algorithm.TheVariants.{HS256, HS384, HS512, RS256, RS384, RS512, PS256}
use Rattle.jwt_base.specs.declared.algorithms.Algorithm.TheVariants.{PS384, PS512, ES256, ES384, EdDSA}
use Rattle.jwt_base.proofs.MembersWritten.{same_texts}
use Rattle.jsonwebtoken.proofs.Ascii.{ascii}

names_are_utf8 : (a : Algorithm) → IsUtf8 (name_of a)
names_are_utf8 HS256 = IsUtf8-from_ascii (name_of HS256) (ascii (name_of HS256) refl)
names_are_utf8 HS384 = IsUtf8-from_ascii (name_of HS384) (ascii (name_of HS384) refl)
names_are_utf8 HS512 = IsUtf8-from_ascii (name_of HS512) (ascii (name_of HS512) refl)
names_are_utf8 RS256 = IsUtf8-from_ascii (name_of RS256) (ascii (name_of RS256) refl)
names_are_utf8 RS384 = IsUtf8-from_ascii (name_of RS384) (ascii (name_of RS384) refl)
names_are_utf8 RS512 = IsUtf8-from_ascii (name_of RS512) (ascii (name_of RS512) refl)
names_are_utf8 PS256 = IsUtf8-from_ascii (name_of PS256) (ascii (name_of PS256) refl)
names_are_utf8 PS384 = IsUtf8-from_ascii (name_of PS384) (ascii (name_of PS384) refl)
names_are_utf8 PS512 = IsUtf8-from_ascii (name_of PS512) (ascii (name_of PS512) refl)
names_are_utf8 ES256 = IsUtf8-from_ascii (name_of ES256) (ascii (name_of ES256) refl)
names_are_utf8 ES384 = IsUtf8-from_ascii (name_of ES384) (ascii (name_of ES384) refl)
names_are_utf8 EdDSA = IsUtf8-from_ascii (name_of EdDSA) (ascii (name_of EdDSA) refl)

none_at : (b : Bool) (s : List ℕ) (a : Algorithm) (more : Option Algorithm) → bytes_eq s (name_of a) ≡ b → ¬ IsUtf8 s
    → more ≡ None → cond b (Some a) more ≡ None
none_at true s a more e other later = absurd (other (rw (same_texts s (name_of a) e) (names_are_utf8 a)))
none_at false s a more e other later = later

none_in : (all : List Algorithm) (s : List ℕ) → ¬ IsUtf8 s → spelled name_of all s ≡ None
none_in [] s other = refl
none_in (a ∷ all) s other = none_at _ s a (spelled name_of all s) refl other (none_in all s other)

pub none_named : (s : List ℕ) → ¬ IsUtf8 s → algorithm_named s ≡ None
none_named s other = none_in all_algorithms s other
