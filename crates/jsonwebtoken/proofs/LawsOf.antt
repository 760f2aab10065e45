-- The laws of accepted tokens.
use Rattle.std.proofs.Common.{◌≡◌, ◌↔◌, true, ℕ, List, [], ◌∷◌, ◌++◌, Some, None, refl, sym, ap, ◌∙◌}
use Rattle.base64.specs.Rfc4648.{encode_symbols}
use Rattle.jwt_base.proofs.Parts.{one_json}
use Rattle.jwt_base.specs.Algorithm.{family_of}
use Rattle.jwt_base.specs.Base64Url.{url_characters}
use Rattle.jwt_base.specs.declared.algorithms.Algorithm.{Algorithm}
use Rattle.jwt_header.proofs.HeaderLemmas.{one_header}
use Rattle.jwt_keys.proofs.OneKey.{one_key}
use Rattle.jwt_keys.specs.Key.{Key, key_family}
use Rattle.jwt_keys.specs.Provider.{HasOneSignature}
use Rattle.jwt_validation.proofs.ClaimRuleLemmas.{within, held_within}
use Rattle.jwt_validation.specs.Options.{Options}
use Rattle.jsonwebtoken.specs.Laws.{timeless, HasMoments, KeepsLooser, KeyFits, FixesToken, AgreeOn, on_parts, on_text}
use Rattle.jsonwebtoken.specs.Order.{Passes}
use Rattle.jsonwebtoken.specs.Tests.{Call, Token, Compact, Separate, HasParts, key_of, Test, Contents, Parts}
use Rattle.jsonwebtoken.specs.Tests.{message_of, decode_order, jws_order, header_order, opening_tests}
use Rattle.jsonwebtoken.specs.Tests.{jws_algorithm_tests, algorithm_tests, verifying_tests, HasThreeParts, HeaderIsBase64url}
use Rattle.jsonwebtoken.specs.Tests.{HeaderIsJson, HeaderIsValid, KeyIsFound, KeyIsUsable, KeyFitsAlgorithm}
use Rattle.jsonwebtoken.specs.Tests.{SignatureIsBase64url, SignatureIsAccepted, PayloadIsBase64url, ClaimsAreValid, token_tests}
use Rattle.jsonwebtoken.proofs.Ascii.{message_bytes}
use Rattle.jsonwebtoken.proofs.Dots.{are_parts, same_as_parts}
use Rattle.jsonwebtoken.proofs.EachTest.{is_in, are_in, met, among, join, passes_looser}

abbrev rest_order : List Test
rest_order = opening_tests ++ algorithm_tests ++ verifying_tests

abbrev jws_rest_order : List Test
jws_rest_order = opening_tests ++ jws_algorithm_tests ++ verifying_tests

-- the tests that fix the token
abbrev text_tests : List Test
text_tests = header_order ++ SignatureIsBase64url ∷ SignatureIsAccepted ∷ PayloadIsBase64url ∷ []

-- with the same header bytes and payload bytes, by the same key, two tokens have the same parts
module _ {T : Type 0} (call : Call T) (t : Contents) (p : Passes (token_tests call) text_tests t)
    (one : HasOneSignature (call.accepts t.header.alg (key_of call.keys t.jwk_key)))
    (token : Token) (w : Options) (m : ℕ) (u : Contents)
    (q : Passes (token_tests (record call { token = token; options = w; time = m })) text_tests u)
    (hb : u.header_bytes ≡ t.header_bytes) (pb : u.payload_bytes ≡ t.payload_bytes) where
  abbrev other : Call T
  other = record call { token = token; options = w; time = m }

  same_header_of : u.header ≡ t.header
  same_header_of =
      let values : u.header_value ≡ t.header_value =
      one_json t.header_bytes _ _ (rw hb at (met other text_tests u q HeaderIsJson refl))
      (met call text_tests t p HeaderIsJson refl) in
      one_header t.header_value _ _ (rw values at (met other text_tests u q HeaderIsValid refl))
      (met call text_tests t p HeaderIsValid refl)

  same_parts_of : key_of call.keys u.jwk_key ≡ key_of call.keys t.jwk_key → u.parts ≡ t.parts
  same_parts_of key =
      let hp = met call text_tests t p HeaderIsBase64url refl in
      let pp = met call text_tests t p PayloadIsBase64url refl in
      let sp = met call text_tests t p SignatureIsBase64url refl in
      let sq = met other text_tests u q SignatureIsBase64url refl in
      let headers : u.parts.header ≡ t.parts.header = (met other text_tests u q HeaderIsBase64url refl).1
      ∙ ap (encode_symbols url_characters) hb ∙ sym hp.1 in
      let payloads : u.parts.payload ≡ t.parts.payload = (met other text_tests u q PayloadIsBase64url refl).1
      ∙ ap (encode_symbols url_characters) pb ∙ sym pp.1 in
      let signed = rw (same_header_of, key, headers, payloads) at (met other text_tests u q SignatureIsAccepted refl) in
      let bytes : u.signature_bytes ≡ t.signature_bytes =
      one (message_of t.parts) _ _ (message_bytes t.parts _ _ hp pp) sq.0 sp.0 signed
      (met call text_tests t p SignatureIsAccepted refl) in
      let signatures : u.parts.signature ≡ t.parts.signature = sq.1 ∙ ap (encode_symbols url_characters) bytes ∙ sym sp.1 in
      λ i. record { header = headers i; payload = payloads i; signature = signatures i }

-- a token of either form is made of its parts in one way
pub one_text : (x y : List ℕ) (c : Parts) → HasParts (Compact x) c → HasParts (Compact y) c → y ≡ x
one_text x y c p q = q.joined ∙ sym p.joined

pub one_form : (x y c : Parts) → HasParts (Separate x) c → HasParts (Separate y) c → y ≡ x
one_form x y c p q = sym q ∙ p

module _ {T : Type 0} (call : Call T) (order : List Test) where
  pub looser : KeepsLooser call order
  looser t p w l = passes_looser call t w l order p

  -- by a provider's law of families
  pub key_fits : is_in KeyFitsAlgorithm order ≡ true → ((a : Algorithm) (k : Key) → call.refusal a k ≡ None
      → key_family k ≡ family_of a) → KeyFits call order
  key_fits made law t p = law t.header.alg (key_of call.keys t.jwk_key) (met call order t p KeyFitsAlgorithm made)

  pub moments : are_in (timeless order) order ≡ true → is_in ClaimsAreValid order ≡ true
      → are_in order (timeless order ++ ClaimsAreValid ∷ []) ≡ true
      → ((t : Contents) (m : ℕ) → Passes (token_tests (record call { time = m })) (timeless order) t
      ↔ Passes (token_tests call) (timeless order) t) → HasMoments call order
  moments inside has outside same t m le =
      let at = record call { time = m } in (
        λ p. let w = within call.options t.payload_value m le (met at order t p ClaimsAreValid has) in
            record { base = (same t m).0 (among at (timeless order) order t inside p); rules = w.0; from = w.1; until = w.2 },
        λ w. among at order (timeless order ++ ClaimsAreValid ∷ []) t outside
            (join at (timeless order) (ClaimsAreValid ∷ []) t ((same t m).1 w.base)
            (held_within call.options t.payload_value m w.rules w.from w.until, tt)),
      )

  -- the key that the header names
  pub named_key : is_in KeyIsFound order ≡ true → is_in KeyIsUsable order ≡ true
      → (token : Token) (w : Options) (m : ℕ) (t u : Contents) → Passes (token_tests call) order t
      → Passes (token_tests (record call { token = token; options = w; time = m })) order u → u.header ≡ t.header
      → u.jwk_key ≡ t.jwk_key
  named_key found usable token w m t u p q same =
      let again = record call { token = token; options = w; time = m } in
      let of_u = rw same at (met again order u q KeyIsFound found) in
      let jwks : Some u.jwk ≡ Some t.jwk = sym of_u ∙ met call order t p KeyIsFound found in
      let jwk : u.jwk ≡ t.jwk = cc in
      one_key t.jwk.algorithm _ _ (rw jwk at (met again order u q KeyIsUsable usable)) (met call order t p KeyIsUsable usable)

  pub fixes : (A : Type 0) (form : A → Token) (x : A) → call.token ≡ form x
      → ((x y : A) (c : Parts) → HasParts (form x) c → HasParts (form y) c → y ≡ x)
      → are_in text_tests order ≡ true
      → ((token : Token) (w : Options) (m : ℕ) (t u : Contents) → Passes (token_tests call) order t
      → Passes (token_tests (record call { token = token; options = w; time = m })) order u → u.header ≡ t.header
      → key_of call.keys u.jwk_key ≡ key_of call.keys t.jwk_key)
      → FixesToken call order A form x
  fixes A form x is_x one_form_of all one_key_of t p one y w m u q hb pb =
      let again = record call { token = form y; options = w; time = m } in
      let pt = among call text_tests order t all p in
      let qu = among again text_tests order u all q in
      let key = one_key_of (form y) w m t u p q (same_header_of call t pt one (form y) w m u qu hb pb) in
      let parts = same_parts_of call t pt one (form y) w m u qu hb pb key in
      one_form_of x y t.parts (rw is_x at (met call text_tests t pt HasThreeParts refl))
      (rw parts at (met again text_tests u qu HasThreeParts refl))

-- jws::decode and decode accept the same
pub agree : {T : Type 0} (call : Call T) (parts : Parts) → AgreeOn call parts
agree call parts t = (
  λ p.
      let apart = on_parts call parts in
      let is : t.parts ≡ parts = met apart jws_order t p HasThreeParts refl in
      let cut = rw is at (are_parts t.parts _ _ _ (met apart jws_order t p HeaderIsBase64url refl)
      (met apart jws_order t p PayloadIsBase64url refl) (met apart jws_order t p SignatureIsBase64url refl)) in
      (rw is cut, among apart rest_order jws_order t refl p),
  λ p.
      let text = on_text call parts in
      let cut = met text decode_order t p HasThreeParts refl in
      let is = same_as_parts parts t.parts _ _ _ cut (met text decode_order t p HeaderIsBase64url refl)
      (met text decode_order t p PayloadIsBase64url refl) (met text decode_order t p SignatureIsBase64url refl) in
      (is, among text jws_rest_order decode_order t refl p),
)
