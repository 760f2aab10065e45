-- The times at which a token is accepted, the options under which it is, and the tokens that are,
-- by the tests of any order.
use Rattle.std.specs.Prelude.{◌≡◌, ◌↔◌, ℕ, ◌≤◌, List, [], ◌∷◌, ◌++◌, Bool, true, false, if◌then◌else◌}
use Rattle.jwt_base.specs.Algorithm.{family_of}
use Rattle.jwt_keys.specs.Key.{key_family}
use Rattle.jwt_keys.specs.Provider.{HasOneSignature}
use Rattle.jwt_keys.specs.declared.jwk.Jwk.{Jwk}
use Rattle.jwt_validation.specs.Claim.{claims_of}
use Rattle.jwt_validation.specs.Moments.{RulesOfNoMoment, first_moment, last_moment, end_of_time, Looser}
use Rattle.jwt_validation.specs.Options.{Options}
use Rattle.jsonwebtoken.specs.Order.{Passes}
use Rattle.jsonwebtoken.specs.Tests.{Call, Token, Compact, Separate, Parts, InSet, key_of, text_of_parts, Test}
use Rattle.jsonwebtoken.specs.Tests.{ClaimsAreValid, Contents, decode_order, jws_order, token_tests}

-- every test but the claim rules does not depend on the time
abbrev pub is_timeless : Test → Bool
is_timeless ClaimsAreValid = false
is_timeless _ = true

-- the order without the claim rules
abbrev pub timeless : List Test → List Test
timeless [] = []
timeless (c ∷ cs) = if is_timeless c then c ∷ timeless cs else timeless cs

module _ {T : Type 0} (call : Call T) (order : List Test) where
  -- The condition on a time: the tests that do not depend on it hold, and it lies from the first
  -- time to the last (RFC 7519 sections 4.1.4 and 4.1.5).
  pub record IsWithin (t : Contents) (m : ℕ) : Type 0 where
    pub base : Passes (token_tests call) (timeless order) t
    pub rules : RulesOfNoMoment call.options t.payload_value
    pub from : first_moment call.options (claims_of t.payload_value) ≤ m
    pub until : m ≤ last_moment call.options (claims_of t.payload_value)

  -- any contents pass exactly at these times (RFC 7519 sections 4.1.4 and 4.1.5)
  abbrev pub HasMoments : Type 0
  HasMoments = (t : Contents) (m : ℕ) → m ≤ end_of_time
      → Passes (token_tests (record call { time = m })) order t ↔ IsWithin t m

  -- contents that pass do so under looser options too
  abbrev pub KeepsLooser : Type 0
  KeepsLooser = (t : Contents) → Passes (token_tests call) order t
      → (w : Options) → Looser call.options w → Passes (token_tests (record call { options = w })) order t

  -- contents that pass do so with more keys after those of the set
  abbrev pub KeepsWithMore : List Jwk → Type 0
  KeepsWithMore set = (t : Contents) → Passes (token_tests call) order t
      → (more : List Jwk) → Passes (token_tests (record call { keys = InSet (set ++ more) })) order t

  -- the key of contents that pass is of the family of the header's algorithm
  abbrev pub KeyFits : Type 0
  KeyFits = (t : Contents) → Passes (token_tests call) order t
      → key_family (key_of call.keys t.jwk_key) ≡ family_of t.header.alg

  -- If the provider accepts at most one signature of each message, any token of this form that passes
  -- with the same header bytes and payload bytes, at any time and under any options, is this one.
  abbrev pub FixesToken : (A : Type 0) → (A → Token) → A → Type 0
  FixesToken A form x = (t : Contents) → Passes (token_tests call) order t
      → HasOneSignature (call.accepts t.header.alg (key_of call.keys t.jwk_key))
      → (y : A) (w : Options) (m : ℕ) (u : Contents)
      → Passes (token_tests (record call { token = form y; options = w; time = m })) order u
      → u.header_bytes ≡ t.header_bytes → u.payload_bytes ≡ t.payload_bytes → y ≡ x

  -- the laws of every call that verifies
  pub record HasLaws (A : Type 0) (form : A → Token) (x : A) : Type 0 where
    pub family : KeyFits
    pub moments : HasMoments
    pub looser : KeepsLooser
    pub one_text : FixesToken A form x

-- the same call on the three parts of a token, and on their text
abbrev pub on_parts : {T : Type 0} → Call T → Parts → Call T
on_parts call p = record call { token = Separate p }

abbrev pub on_text : {T : Type 0} → Call T → Parts → Call T
on_text call p = record call { token = Compact (text_of_parts p) }

-- the same contents pass both (RFC 7515 sections 7.1 and 7.2.2)
abbrev pub AgreeOn : {T : Type 0} → Call T → Parts → Type 0
AgreeOn call p = (t : Contents)
    → Passes (token_tests (on_parts call p)) jws_order t ↔ Passes (token_tests (on_text call p)) decode_order t
