-- The results of a call by the family of the token's key.
use Rattle.std.proofs.Common.{◌≡◌, ◌∙◌, ℕ, List, Contains, IfOk, Option, None, Some, Result, Ok, Err, option_and_then, ap, refl}
use Rattle.std.proofs.Common.{subst, sym}
use Rattle.jwt_base.specs.Algorithm.{family_of}
use Rattle.jwt_base.specs.Kind.{Kind}
use Rattle.jwt_base.specs.declared.algorithms.Algorithm.{Algorithm}
use Rattle.jwt_base.specs.declared.algorithms.AlgorithmFamily.{AlgorithmFamily}
use Rattle.jwt_header.specs.declared.header.Header.{Header}
use Rattle.jwt_keys.specs.Key.{Key, key_family}
use Rattle.jwt_keys.specs.KeyOfJwk.{IsKeyOf}
use Rattle.jwt_params.specs.declared.parameters.AlgorithmParameters.{AlgorithmParameters}
use Rattle.jwt_params.specs.declared.parameters.AlgorithmParameters.TheVariants.{EllipticCurve, RSA, OctetKey}
use Rattle.jwt_params.specs.declared.parameters.AlgorithmParameters.TheVariants.{OctetKeyPair, Other}
use Rattle.jwt_validation.specs.Options.{Options}
use Rattle.jsonwebtoken.specs.Calls.{Carries}
use Rattle.jsonwebtoken.specs.Family.{AcceptsByFamily, Agrees, AreOfOneFamily, ByFamily, FitsKey, PassesByFamily}
use Rattle.jsonwebtoken.specs.Family.{family_by, family_of_type, left_for, with_family}
use Rattle.jsonwebtoken.specs.Finder.{finding_tests, looking_by, order_by}
use Rattle.jsonwebtoken.specs.Order.{Passes}
use Rattle.jsonwebtoken.specs.Own.{HasHeaderOf, with_algorithms}
use Rattle.jsonwebtoken.specs.Refused.{DecidesByTest}
use Rattle.jsonwebtoken.specs.Tests.{AlgorithmIsAllowed, Call, Compact, Contents, Given, InSet, KeyAlgMatches, KeyFitsAlgorithm}
use Rattle.jsonwebtoken.specs.Tests.{KeyIsFound, KeyIsUsable, KeySource, decode_order, header_call, header_order, key_of, set_order}
use Rattle.jsonwebtoken.specs.Tests.{token_tests}
use Rattle.jsonwebtoken.specs.declared.decoding.TokenData.{TokenData}
use Rattle.jsonwebtoken.specs.declared.refusal.Refusal.{Refusal}
use Rattle.jsonwebtoken.specs.Steps.{Failed}
use Rattle.jsonwebtoken.specs.Tests.{Test}
use Rattle.jsonwebtoken.specs.private_clauses.Asking.{given_key}
use Rattle.jsonwebtoken.specs.private_clauses.Steps.{with_header}
use Rattle.jsonwebtoken.proofs.EachTest.{among, met, same_header}
use Rattle.jsonwebtoken.proofs.FamilyLemmas.{left_are_of_family, left_within, one_family_left}

-- a JSON Web Key stands for a key of the family of its type
pub family_of_key : (p : AlgorithmParameters) (k : Key) → IsKeyOf p k → family_of_type p ≡ Some (key_family k)
family_of_key (EllipticCurve p) k is = ap (λ j. Some (key_family j)) (sym is.1.1.0)
family_of_key (RSA p) k is = ap (λ j. Some (key_family j)) (sym is.1.1.0)
family_of_key (OctetKey p) k is = ap (λ j. Some (key_family j)) (sym is.1.0)
family_of_key (OctetKeyPair p) k is = ap (λ j. Some (key_family j)) (sym is.1.0)
family_of_key (Other p) k is = absurd is

-- ---- the key that was found

-- its family is the one that the header names
found_family : (keys : KeySource) (h : Header) (n : Contents)
    → Passes (token_tests (looking_by keys)) (finding_tests keys) (with_header h n)
    → family_by keys h ≡ Some (key_family (key_of keys n.jwk_key))
found_family (Given k) h n p = refl
found_family (InSet ks) h n p =
    ap (option_and_then (λ j. family_of_type j.algorithm)) p.0 ∙ family_of_key n.jwk.algorithm n.jwk_key p.1.1.0

pub left_is : (keys : KeySource) (h : Header) (n : Contents)
    → Passes (token_tests (looking_by keys)) (finding_tests keys) (with_header h n)
    → (key : Key) → key_of keys n.jwk_key ≡ key → (f : AlgorithmFamily) → f ≡ key_family key
    → (xs listed : List Algorithm) → xs ≡ listed → left_for (Some f) xs ≡ left_for (family_by keys h) listed
left_is keys h n p key same f is xs listed all =
    ap (left_for (Some f)) all
    ∙ ap (λ (g : Option AlgorithmFamily). left_for g listed)
    (ap (λ (g : AlgorithmFamily). Some g) (is ∙ ap key_family (sym same)) ∙ sym (found_family keys h n p))

-- the same with another name of the list
pub failed_by_list : {T : Type 0} (call : Call T) (o : Options) (key : Key) (order : List Test) (x : Contents) (f : Test) (k : Kind)
    (xs ys : List Algorithm) → xs ≡ ys
    → Failed (given_key (record call { options = with_algorithms o xs }) key) order x f k
    → Failed (given_key (record call { options = with_algorithms o ys }) key) order x f k
failed_by_list call o key order x f k xs ys same s =
    subst (λ (l : List Algorithm). Failed (given_key (record call { options = with_algorithms o l }) key) order x f k) same s

module _ {T : Type 0} (call : Call T) (keys : KeySource) (o : Options) (token : List ℕ)
    (law : (a : Algorithm) (k : Key) → call.refusal a k ≡ None → key_family k ≡ family_of a) where
  abbrev asked : Call T
  asked = record call { keys = keys; options = o; token = Compact token }

  abbrev by : Option AlgorithmFamily → Call T
  by f = with_family asked f

  -- ---- contents that pass

  has_header : (ks : KeySource) (f : Option AlgorithmFamily) (t : Contents)
      → Passes (token_tests (record (by f) { keys = ks })) (order_by ks) t → HasHeaderOf token t
  has_header (Given k) f t p = among (record (by f) { keys = Given k }) header_order decode_order t refl p
  has_header (InSet ks) f t p = among (record (by f) { keys = InSet ks }) header_order set_order t refl p

  allowed : (ks : KeySource) (f : Option AlgorithmFamily) (t : Contents)
      → Passes (token_tests (record (by f) { keys = ks })) (order_by ks) t → Contains (left_for f o.algorithms) t.header.alg
  allowed (Given k) f t p = met (record (by f) { keys = Given k }) decode_order t p AlgorithmIsAllowed refl
  allowed (InSet ks) f t p = met (record (by f) { keys = InSet ks }) set_order t p AlgorithmIsAllowed refl

  made : (ks : KeySource) (f : Option AlgorithmFamily) (t : Contents)
      → Passes (token_tests (record (by f) { keys = ks })) (order_by ks) t
      → call.refusal t.header.alg (key_of ks t.jwk_key) ≡ None
  made (Given k) f t p = met (record (by f) { keys = Given k }) decode_order t p KeyFitsAlgorithm refl
  made (InSet ks) f t p = met (record (by f) { keys = InSet ks }) set_order t p KeyFitsAlgorithm refl

  agree : (ks : KeySource) (f : Option AlgorithmFamily) (t : Contents)
      → Passes (token_tests (record (by f) { keys = ks })) (order_by ks) t → Agrees ks t.header.alg t.jwk
  agree (Given k) f t p = tt
  agree (InSet ks) f t p = met (record (by f) { keys = InSet ks }) set_order t p KeyAlgMatches refl

  -- the family of the key
  family_is : (ks : KeySource) (f : Option AlgorithmFamily) (t : Contents)
      → Passes (token_tests (record (by f) { keys = ks })) (order_by ks) t
      → family_by ks t.header ≡ Some (key_family (key_of ks t.jwk_key))
  family_is (Given k) f t p = refl
  family_is (InSet ks) f t p =
      let found = met (record (by f) { keys = InSet ks }) set_order t p KeyIsFound refl in
      ap (option_and_then (λ j. family_of_type j.algorithm)) found
      ∙ family_of_key t.jwk.algorithm t.jwk_key (met (record (by f) { keys = InSet ks }) set_order t p KeyIsUsable refl)

  alg_family : (f : Option AlgorithmFamily) (t : Contents) → Passes (token_tests (by f)) (order_by keys) t
      → family_by keys t.header ≡ Some (family_of t.header.alg)
  alg_family f t p = family_is keys f t p
      ∙ ap (λ (g : AlgorithmFamily). Some g) (law t.header.alg (key_of keys t.jwk_key) (made keys f t p))

  within : (f : Option AlgorithmFamily) (a : Algorithm) → Contains (left_for f o.algorithms) a → Contains o.algorithms a
  within None a h = h
  within (Some f) a h = left_within f o.algorithms a h

  pub fits : (f : Option AlgorithmFamily) (t : Contents) → Passes (token_tests (by f)) (order_by keys) t → FitsKey asked t
  fits f t p = record {
    listed = within f t.header.alg (allowed keys f t p);
    family = law t.header.alg (key_of keys t.jwk_key) (made keys f t p);
    agrees = agree keys f t p;
    made = made keys f t p;
  }

  -- ---- a result

  module _ (r : Result (TokenData T) Refusal) where
    abbrev pub Decided : Type 0
    Decided = ByFamily asked token (λ c. DecidesByTest (token_tests c) (order_by keys) (Carries c) r)

    abbrev pub Accepts : Type 0
    Accepts = AcceptsByFamily asked (order_by keys) (Carries asked) r

    abbrev pub OneFamily : Type 0
    OneFamily = AreOfOneFamily o.algorithms → DecidesByTest (token_tests asked) (order_by keys) (Carries asked) r

    abbrev DecidesWith : List Algorithm → Type 0
    DecidesWith algorithms =
        DecidesByTest (token_tests (record asked { options = with_algorithms o algorithms })) (order_by keys)
        (Carries asked) r

    -- the same whatever algorithms are listed: what is refused by the token's parts or its header
    module _ (whatever : (algorithms : List Algorithm) → DecidesWith algorithms) where
      pub any_decided : Decided
      any_decided f is = whatever (left_for f o.algorithms)

      pub any_one : OneFamily
      any_one one = whatever o.algorithms

    -- the same with the algorithms of the family that the token's header names
    module _ (x : Contents) (has : HasHeaderOf token x) (decided : DecidesWith (left_for (family_by keys x.header) o.algorithms)) where
      pub then_decided : Decided
      then_decided f is =
          subst (λ (g : Option AlgorithmFamily). DecidesWith (left_for g o.algorithms)) (sym (is x has)) decided

      pub then_one : OneFamily
      then_one one = subst DecidesWith (one_family_left (family_by keys x.header) o.algorithms one) decided

      same_family : (f : Option AlgorithmFamily) (t : Contents) → Passes (token_tests (by f)) (order_by keys) t
          → family_by keys x.header ≡ Some (family_of t.header.alg)
      same_family f t p = ap (family_by keys) (same_header (header_call token) header_order x t has (has_header keys f t p) refl)
          ∙ alg_family f t p

      passes_by : (f : Option AlgorithmFamily) (t : Contents) → f ≡ family_by keys x.header
          → Passes (token_tests (by f)) (order_by keys) t → PassesByFamily asked (order_by keys) t
      passes_by f t is p = (
        t.header.alg,
        within f t.header.alg (allowed keys f t p),
        subst (λ (g : Option AlgorithmFamily). Passes (token_tests (by g)) (order_by keys) t) (is ∙ same_family f t p) p,
      )

      -- the family of a listed algorithm is that of the key, if contents pass with it
      passes_with : (t : Contents) → PassesByFamily asked (order_by keys) t
          → Passes (token_tests (by (family_by keys x.header))) (order_by keys) t
      passes_with t b =
          let f = family_of b.0 in
          let same : family_of t.header.alg ≡ f = left_are_of_family f o.algorithms b.0 b.1 refl t.header.alg
          (allowed keys (Some f) t b.2) in
          subst (λ (g : Option AlgorithmFamily). Passes (token_tests (by g)) (order_by keys) t)
          (sym (same_family (Some f) t b.2 ∙ ap (λ (g : AlgorithmFamily). Some g) same)) b.2

      shown : (q : Result (TokenData T) Refusal)
          → DecidesByTest (token_tests (by (family_by keys x.header))) (order_by keys) (Carries asked) q
          → IfOk q (λ y. (t : Contents) × PassesByFamily asked (order_by keys) t × Carries asked t y)
      shown (Ok y) d = let a = d.accepted in (a.0, passes_by (family_by keys x.header) a.0 refl a.1, a.2)
      shown (Err e) d = tt

      pub then_accepts : Accepts
      then_accepts = record { accepted = shown r decided; exact = λ t b. decided.exact t (passes_with t b) }

  -- a refusal whatever algorithms are listed
  pub any_accepts : (e : Refusal) → ((algorithms : List Algorithm) → DecidesWith (Err e) algorithms) → Accepts (Err e)
  any_accepts e whatever = record {
    accepted = tt;
    exact = λ t b. (whatever (left_for (Some (family_of b.0)) o.algorithms)).exact t b.2;
  }
