-- The moments at which a token is accepted are those that its claims allow, or none.
use Rattle.std.proofs.Common.{◌≡◌, ℕ, ◌≤◌, List, true, arith, refl, sym, ap, ◌∙◌, subst, Option}
use Rattle.jwt_base.specs.Kind.{Kind}
use Rattle.jwt_base.specs.declared.algorithms.Algorithm.{Algorithm}
use Rattle.jwt_keys.specs.Key.{Key}
use Rattle.jwt_validation.specs.Claim.{claims_of}
use Rattle.jwt_validation.specs.Moments.{first_moment, last_moment, end_of_time}
use Rattle.jwt_validation.specs.Options.{Options}
use Rattle.jwt_validation.specs.declared.interval.Moments.{Moments}
use Rattle.serde_json.specs.Data.{Data}
use Rattle.jsonwebtoken.specs.Accepted.{IsAcceptedAt, AreAcceptedMoments}
use Rattle.jsonwebtoken.specs.Finder.{order_by}
use Rattle.jsonwebtoken.specs.Laws.{HasMoments, IsWithin}
use Rattle.jsonwebtoken.specs.Order.{Passes, IsFirstFailed}
use Rattle.jsonwebtoken.specs.Tests.{Given, InSet}
use Rattle.jsonwebtoken.specs.Tests.{Call, Compact, KeySource, Test, Contents, header_call, verifying_call, token_tests}
use Rattle.jsonwebtoken.specs.private_clauses.Claimed.{value_tests, AreClaimed}
use Rattle.jsonwebtoken.proofs.EachTest.{among, are_in, same_claims}
use Rattle.jsonwebtoken.proofs.Engine.{not_passed}

-- each order reads the payload
pub reads_value_by : (keys : KeySource) → are_in value_tests (order_by keys) ≡ true
reads_value_by (Given k) = refl
reads_value_by (InSet ks) = refl

module _ {T : Type 0} (text : List ℕ) (keys : KeySource) (o : Options) (refusal : Algorithm → Key → Option Kind)
    (accepts : Algorithm → Key → List ℕ → List ℕ → Type 0) (reads : Data → T → Type 0) (order : List Test) where
  abbrev at_moment : ℕ → Call T
  at_moment n = verifying_call (Compact text) keys o n refusal accepts reads

  module _ (reads_value : are_in value_tests order ≡ true) where
    read_of : (n : ℕ) (t : Contents) → Passes (token_tests (at_moment n)) order t
        → Passes (token_tests (header_call text)) value_tests t
    read_of n t p = among (at_moment n) value_tests order t reads_value p

    -- no contents pass if the payload is no JSON
    pub none_read : (c : Test) → IsFirstFailed (token_tests (header_call text)) value_tests c → (n : ℕ)
        → n ≤ end_of_time → ¬ IsAcceptedAt (at_moment 0) order n
    none_read c f n le a = not_passed (token_tests (header_call text)) value_tests c f a.0 (read_of n a.0 a.1)

    module _ (has : HasMoments (at_moment 0) order) (x : Contents) (p : Passes (token_tests (header_call text)) value_tests x)
        (m : Moments) (claimed : AreClaimed o x m) (fits : m.first ≤ end_of_time) where
      module _ (n : ℕ) (t : Contents) (q : Passes (token_tests (at_moment n)) order t) where
        same : x.payload_value ≡ t.payload_value
        same = same_claims (header_call text) value_tests x t p (read_of n t q) refl

        same_first : m.first ≡ first_moment o (claims_of t.payload_value)
        same_first = claimed.0 ∙ ap (λ d. first_moment o (claims_of d)) same

        same_last : m.last ≡ last_moment o (claims_of t.payload_value)
        same_last = claimed.1 ∙ ap (λ d. last_moment o (claims_of d)) same

        within : n ≤ end_of_time → IsWithin (at_moment 0) order t n × ((m.first ≤ n) × (n ≤ m.last))
        within le = let w = (has t n le).0 q in
            (w, (subst (λ f. f ≤ n) (sym same_first) w.from, subst (λ l. n ≤ l) (sym same_last) w.until))

        -- at these moments too
        moved : (k : ℕ) → n ≤ end_of_time → k ≤ end_of_time → m.first ≤ k → k ≤ m.last
            → Passes (token_tests (at_moment k)) order t
        moved k le fit lo hi = let w = (has t n le).0 q in
            (has t k fit).1 (record {
              base = w.base;
              rules = w.rules;
              from = subst (λ f. f ≤ k) same_first lo;
              until = subst (λ l. k ≤ l) same_last hi;
            })

      -- the claims' moments, if contents pass at the first of them
      pub all_claimed : IsAcceptedAt (at_moment 0) order m.first → AreAcceptedMoments (at_moment 0) order m
      all_claimed a = record {
        some = (within m.first a.0 a.1 fits).1.1;
        exactly = λ n le. (λ b. (within n b.0 b.1 le).1, λ k. (a.0, moved m.first a.0 a.1 n fits le k.0 k.1));
      }

      -- no moment, if none pass at the first of them
      pub none_claimed : (c : Test) → IsFirstFailed (token_tests (at_moment m.first)) order c → (n : ℕ)
          → n ≤ end_of_time → ¬ IsAcceptedAt (at_moment 0) order n
      none_claimed c f n le b =
          let w = (within n b.0 b.1 le).1 in
          let last : m.first ≤ m.last = omega (arith, w.0, w.1) in
          not_passed (token_tests (at_moment m.first)) order c f b.0 (moved n b.0 b.1 m.first le fits (omega arith) last)
