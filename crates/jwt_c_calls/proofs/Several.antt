-- Several verifiers, one after another.
use Rattle.std.proofs.Common.{◌≡◌, ◌∙◌, ◌<◌, ◌≤◌, ◌+◌, ◌||◌, ap, arith, ℕ, suc, List, [], ◌∷◌, ◌++◌, Bool, true, false, drop, get_or, length, nat_lt, refl, subst, sym, take}
use Rattle.std.proofs.Common.{append_assoc, inl, inr}
use Rattle.std.specs.List.{list_any}
use Rattle.std.specs.Prelude.{All, if◌then◌else◌}
use Rattle.std.proofs.lemmas.Bool.Decides.{nat_tests}
use Rattle.std.proofs.lemmas.List.{drop_more, length-map, length-take-le, map-append, take-append-drop, take_more}
use Rattle.std.proofs.lemmas.List.Elements.{All-append, All-cons, All-nil, All-weaker}
use Rattle.std.proofs.lemmas.List.Folds.{list_any-append}
use Rattle.jwt_c_calls.specs.Acceptors.{Accepting, accepting, accepting_all}
use Rattle.jwt_c_calls.specs.Verdicts.{AcceptsFirst, AcceptsToken, IsLatest, IsToldOf, RefuseAll, RefusesToken, later}
use Rattle.jwt_c_calls.specs.declared.acceptors.Acceptor.{Acceptor}
use Rattle.jwt_c_calls.specs.declared.verdicts.Accepted.{Accepted}
use Rattle.jwt_c_calls.specs.declared.verdicts.TokenRefusal.{TokenRefusal}

module _ (token : List ℕ) (time : ℕ) where
  -- one more refuses
  more_refuse : (vs : List Accepting) (place : ℕ) (whys : List TokenRefusal) (v : Accepting) (why : TokenRefusal)
      → RefuseAll token time place vs whys → RefusesToken token time v why → why.place ≡ place + length vs
      → RefuseAll token time place (vs ++ v ∷ []) (whys ++ why ∷ [])
  more_refuse [] place [] v why h r e = (r, omega (arith, e), tt)
  more_refuse [] place (w ∷ ws) v why h r e = absurd h
  more_refuse (u ∷ us) place [] v why h r e = absurd h
  more_refuse (u ∷ us) place (w ∷ ws) v why h r e = (h.0, h.1, more_refuse us (suc place) ws v why h.2 r (omega (arith, e)))

  -- one accepts after those that refuse
  then_accepts : (vs : List Accepting) (place : ℕ) (whys : List TokenRefusal) (v : Accepting) (rest : List Accepting) (a : Accepted)
      → RefuseAll token time place vs whys → AcceptsToken token time v a → a.place ≡ place + length vs
      → AcceptsFirst token time place (vs ++ v ∷ rest) a
  then_accepts [] place whys v rest a h t e = inl (t, omega (arith, e))
  then_accepts (u ∷ us) place [] v rest a h t e = absurd h
  then_accepts (u ∷ us) place (w ∷ ws) v rest a h t e = inr ((w, h.0), then_accepts us (suc place) ws v rest a h.2 t (omega (arith, e)))

  module _ (xs : List Acceptor) (i : ℕ) (d : Acceptor) (lt : i < length xs) where
    before : length (accepting_all (take i xs)) ≡ i
    before = length-map (take i xs) accepting ∙ length-take-le i xs (omega (arith, lt))

    pub refused_at : (whys : List TokenRefusal) (why : TokenRefusal) → RefuseAll token time 1 (accepting_all (take i xs)) whys
        → RefusesToken token time (accepting (get_or xs i d)) why → why.place ≡ i + 1
        → RefuseAll token time 1 (accepting_all (take (i + 1) xs)) (whys ++ why ∷ [])
    refused_at whys why h r e =
        let all : accepting_all (take (i + 1) xs) ≡ accepting_all (take i xs) ++ accepting (get_or xs i d) ∷ []
        = ap accepting_all (take_more xs i d lt) ∙ map-append accepting (take i xs) (get_or xs i d ∷ []) in
        subst (λ vs. RefuseAll token time 1 vs (whys ++ why ∷ [])) (sym all)
        (more_refuse (accepting_all (take i xs)) 1 whys (accepting (get_or xs i d)) why h r (omega (arith, e, before)))

    pub accepted_at : (whys : List TokenRefusal) (a : Accepted) → RefuseAll token time 1 (accepting_all (take i xs)) whys
        → AcceptsToken token time (accepting (get_or xs i d)) a → a.place ≡ i + 1
        → AcceptsFirst token time 1 (accepting_all xs) a
    accepted_at whys a h t e =
        let cut : xs ≡ take i xs ++ get_or xs i d ∷ drop (i + 1) xs
        = sym (take-append-drop i xs) ∙ ap (λ l. take i xs ++ l) (drop_more xs i d lt) in
        let all : accepting_all xs ≡ accepting_all (take i xs) ++ accepting (get_or xs i d) ∷ accepting_all (drop (i + 1) xs)
        = ap accepting_all cut ∙ map-append accepting (take i xs) (get_or xs i d ∷ drop (i + 1) xs) in
        subst (λ vs. AcceptsFirst token time 1 vs a) (sym all)
        (then_accepts (accepting_all (take i xs)) 1 whys (accepting (get_or xs i d)) (accepting_all (drop (i + 1) xs)) a h t
        (omega (arith, e, before)))

-- ---- the refusal that is told

latest_of_more : (whys : List TokenRefusal) (w why : TokenRefusal) (b : Bool) → nat_lt w.test why.test ≡ b → IsLatest whys w
    → IsLatest (whys ++ why ∷ []) (if b then why else w)
latest_of_more whys w why true e h =
    let lt : w.test < why.test = grind (arith, nat_tests) in
    record {
      before = whys;
      after = [];
      among = refl;
      earlier = subst (All (λ x. x.test < why.test)) (sym h.among)
          (All-append (λ x. x.test < why.test) h.before (w ∷ h.after)
          (All-weaker (λ x. x.test < w.test) (λ x. x.test < why.test) (λ x p. omega (arith, p, lt)) h.before h.earlier)
          (All-cons (λ x. x.test < why.test) w h.after lt
          (All-weaker (λ x. x.test ≤ w.test) (λ x. x.test < why.test) (λ x p. omega (arith, p, lt)) h.after h.no_later)));
      no_later = All-nil (λ x. x.test ≤ why.test);
    }
latest_of_more whys w why false e h =
    let le : why.test ≤ w.test = grind (arith, nat_tests) in
    record {
      before = h.before;
      after = h.after ++ why ∷ [];
      among = ap (λ l. l ++ why ∷ []) h.among ∙ append_assoc h.before (w ∷ h.after) (why ∷ []);
      earlier = h.earlier;
      no_later = All-append (λ x. x.test ≤ w.test) h.after (why ∷ []) h.no_later
          (All-cons (λ x. x.test ≤ w.test) why [] le (All-nil (λ x. x.test ≤ w.test)));
    }

kept : (w : TokenRefusal) (b : Bool) → w.has_kid ≡ b → w ≡ record w { has_kid = b || false }
kept w true e = λ i. record w { has_kid = e i }
kept w false e = λ i. record w { has_kid = e i }

either : (a b c : Bool) → a ≡ b → (a || (c || false)) ≡ (b || c)
either true b c e = rw (← e) refl
either false b true e = rw (← e) refl
either false b false e = rw (← e) refl

told_by : (whys : List TokenRefusal) (said why : TokenRefusal) (b : Bool) → nat_lt said.test why.test ≡ b → IsToldOf whys said
    → list_any (λ w. w.has_kid) (whys ++ why ∷ []) ≡ (said.has_kid || why.has_kid)
    → IsToldOf (whys ++ why ∷ []) (later said why)
told_by whys said why true e h all =
    let same : said.test ≡ h.0.test = ap (λ w. w.test) h.2 in
    let lt : nat_lt h.0.test why.test ≡ true = rw same at e in
    (why, latest_of_more whys h.0 why true lt h.1, rw (e, all) refl)
told_by whys said why false e h all =
    let same : said.test ≡ h.0.test = ap (λ w. w.test) h.2 in
    let ge : nat_lt h.0.test why.test ≡ false = rw same at e in
    let own : record said { has_kid = said.has_kid || why.has_kid } ≡ record h.0 { has_kid = said.has_kid || why.has_kid }
    = ap {A = TokenRefusal} {B = TokenRefusal} (λ w. record w { has_kid = said.has_kid || why.has_kid }) h.2 in
    (h.0, latest_of_more whys h.0 why false ge h.1, rw (e, all) own)

pub told_first : (why : TokenRefusal) → IsToldOf (why ∷ []) why
told_first why = (
  why,
  record {
    before = [];
    after = [];
    among = refl;
    earlier = All-nil (λ x. x.test < why.test);
    no_later = All-nil (λ x. x.test ≤ why.test);
  },
  kept why why.has_kid refl,
)

pub told_more : (whys : List TokenRefusal) (said why : TokenRefusal) → IsToldOf whys said
    → IsToldOf (whys ++ why ∷ []) (later said why)
told_more whys said why h =
    let same : said.test ≡ h.0.test = ap (λ w. w.test) h.2 in
    let kid : said.has_kid ≡ list_any (λ w. w.has_kid) whys = ap (λ w. w.has_kid) h.2 in
    let all : list_any (λ w. w.has_kid) (whys ++ why ∷ []) ≡ (said.has_kid || why.has_kid)
    = list_any-append (λ w. w.has_kid) whys (why ∷ []) ∙ either (list_any (λ w. w.has_kid) whys) said.has_kid why.has_kid (sym kid) in
    told_by whys said why (nat_lt said.test why.test) refl h all
