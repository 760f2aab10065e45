-- A token that is signed byte for byte is read back as these bytes.
use Rattle.std.proofs.Common.{◌≡◌, ◌∙◌, ℕ, List, [], ◌∷◌, ◌++◌, Contains, ap, arith, refl, subst, sym}
use Rattle.std.proofs.lemmas.List.{append_assoc}
use Rattle.std.proofs.lemmas.List.Elements.{Contains-append_right}
use Rattle.serde_json.specs.Data.{Data}
use Rattle.jwt_base.specs.Base64Url.{IsPart}
use Rattle.jwt_base.specs.declared.algorithms.Algorithm.{Algorithm}
use Rattle.jwt_header.specs.declared.header.Header.{Header}
use Rattle.jsonwebtoken.specs.private_clauses.Steps.{no_contents}
use Rattle.jsonwebtoken.specs.Own.{HasHeaderOf}
use Rattle.jsonwebtoken.specs.Tests.{dot, ArePartsOf, Contents, Parts, header_call, header_order, message_of, text_of_parts}
use Rattle.jsonwebtoken.proofs.Dots.{are_parts}
use Rattle.jsonwebtoken.proofs.EachTest.{same_header}
use Rattle.jwt_c_calls.specs.BySignature.{HasExactParts, IsAttachable}
use Rattle.jwt_c_calls.specs.Exact.{IsMessageOf, IsReadBack, IsTokenOf, ReadsExactHeader, ReadsExactPayload}

module _ (header payload message signature token : List ℕ) (m : IsMessageOf header payload message) (t : IsTokenOf message signature token) where
  abbrev parts : Parts
  parts = record { header = m.header_part; payload = m.payload_part; signature = t.0 }

  cut : ArePartsOf token parts
  cut =
      let joined : token ≡ text_of_parts parts = t.2 ∙ ap (λ x. x ++ dot ∷ t.0) m.joined
      ∙ append_assoc m.header_part (dot ∷ m.payload_part) (dot ∷ t.0) in
      subst (λ x. ArePartsOf x parts) (sym joined) (are_parts parts header payload signature m.header_is m.payload_is t.1)

  pub read_back : (h : Header) (claims : Data) → ReadsExactHeader header h → ReadsExactPayload payload claims
      → IsReadBack header payload message signature token h claims
  read_back h claims rh rp = record {
    contents = record no_contents {
      parts = parts;
      header_bytes = header;
      header_value = rh.0.0;
      header = h;
      signature_bytes = signature;
      payload_bytes = payload;
      payload_value = claims;
    };
    passed = (cut, (m.header_is, (rh.0.1.0, (rh.0.1.1, (t.1, (m.payload_is, (rp.0.0, tt)))))));
    header_bytes = refl;
    as_header = refl;
    payload_bytes = refl;
    as_claims = refl;
    signed = sym m.joined;
    signature_bytes = refl;
  }

  -- the token has the parts of its message
  pub has_parts : (algorithm : Algorithm) (h : Header) (claims : Data) → ReadsExactHeader header h → h.alg ≡ algorithm
      → ReadsExactPayload payload claims → HasExactParts token algorithm
  has_parts algorithm h claims rh names rp = record {
    contents = record no_contents { parts = parts; header_bytes = header; payload_bytes = payload };
    parts = cut;
    header = m.header_is;
    payload = m.payload_is;
    names = (h, rh, names);
    claims = claims;
    reads_payload = rp;
  }

-- ---- a token that has such parts

module _ (token : List ℕ) (algorithm : Algorithm) (h : HasExactParts token algorithm) where
  as_read : Contents
  as_read = record h.contents { header_value = h.names.1.0.0; header = h.names.0 }

  is_read : HasHeaderOf token as_read
  unfolding as_read
  is_read = (h.parts, (h.header, (h.names.1.0.1.0, (h.names.1.0.1.1, tt))))

-- its header names one algorithm
pub one_algorithm : (token : List ℕ) (a b : Algorithm) → HasExactParts token a → HasExactParts token b → a ≡ b
unfolding as_read
one_algorithm token a b h k =
    let same : h.names.0 ≡ k.names.0 = same_header (header_call token) header_order (as_read token a h) (as_read token b k)
    (is_read token a h) (is_read token b k) refl in
    sym h.names.2 ∙ ap (λ x. x.alg) same ∙ k.names.2

here : (b : List ℕ) (d : ℕ) → Contains (d ∷ b) d
here b d = (0, omega arith, refl)

middle : (a b : List ℕ) (d : ℕ) → Contains (a ++ d ∷ b) d
middle a b d = Contains-append_right a (d ∷ b) d (here b d)

-- the last place of d cuts a list in one way
front : (a b p q : List ℕ) (d : ℕ) → ¬ Contains b d → ¬ Contains q d → a ++ d ∷ b ≡ p ++ d ∷ q → a ≡ p
front [] b [] q d h k e = refl
front [] b (x ∷ p) q d h k e = let tails : b ≡ p ++ d ∷ q = cc in
    absurd (h (subst (λ l. Contains l d) (sym tails) (middle p q d)))
front (x ∷ a) b [] q d h k e = let tails : q ≡ a ++ d ∷ b = cc in
    absurd (k (subst (λ l. Contains l d) (sym tails) (middle a b d)))
front (x ∷ a) b (y ∷ p) q d h k e =
    let heads : x ≡ y = cc in
    let tails : a ++ d ∷ b ≡ p ++ d ∷ q = cc in
    let first : a ≡ p = front a b p q d h k tails in cc

-- no part has a dot
no_dot_in : (part bytes : List ℕ) → IsPart part bytes → ¬ Contains part dot
no_dot_in part bytes is = (are_parts (record { header = part; payload = part; signature = part }) bytes bytes bytes is is is).signature

pub message_of_parts : (message signature token : List ℕ) (algorithm : Algorithm) (t : IsTokenOf message signature token)
    (h : HasExactParts token algorithm) → IsMessageOf h.contents.header_bytes h.contents.payload_bytes message
message_of_parts message signature token algorithm t h =
    let c = h.contents.parts in
    let fronts : message ≡ c.header ++ dot ∷ c.payload = front message t.0 (c.header ++ dot ∷ c.payload) c.signature dot
    (no_dot_in t.0 signature t.1) h.parts.signature
    (sym t.2 ∙ h.parts.joined ∙ sym (append_assoc c.header (dot ∷ c.payload) (dot ∷ c.signature))) in
    record { header_part = c.header; payload_part = c.payload; header_is = h.header; payload_is = h.payload; joined = fronts }
