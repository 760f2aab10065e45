-- Which keys are prepared, key by key.
use Rattle.std.proofs.Common.{◌≡◌, ◌≢◌, ◌∙◌, ◌<◌, ◌+◌, ℕ, List, [], ◌∷◌, length, map, get_or, refl, sym, ap, arith, ⊎_elim}
use Rattle.std.specs.Prelude.{Contains}
use Rattle.std.proofs.Math.Nat.{eq-or-lt_of_le}
use Rattle.std.proofs.lemmas.List.{get_or-map, get_or_default, length-map}
use Rattle.jwt_keys.specs.Key.{Key, Plain, Components, ModulusExponent, key_content}
use Rattle.jwt_rsa.specs.RsaPrepared.{prepared_key, IsPrepared, IsPreparedKey}
use Rattle.jwt_rsa.specs.declared.kept.PreparedKey.{PreparedKey}
use Rattle.jwt_rsa.specs.declared.prepared.PreparedRsa.{PreparedRsa}

pub same_key : (k : PreparedKey) (n e : List ℕ) → prepared_key k ≡ (n, e) → (k.n.items ≡ n) × (k.e.items ≡ e)
same_key k n e h = (ap (λ p. p.0) h, ap (λ p. p.1) h)

-- no key before one place and not the one there: none before the next place
pub one_more : (ks : List PreparedKey) (i : ℕ) (k : PreparedKey) (key : List ℕ × List ℕ) → i < length ks
    → k ≡ get_or ks i k → prepared_key k ≢ key
    → ((j : ℕ) (d : PreparedKey) → j < i → prepared_key (get_or ks j d) ≢ key)
    → (j : ℕ) (d : PreparedKey) → j < i + 1 → prepared_key (get_or ks j d) ≢ key
one_more ks i k key inside here other before j d lt e = ⊎_elim
    (λ same. other (ap prepared_key (here ∙ get_or_default ks i k d inside) ∙ rw (← same) e))
    (λ less. before j d less e)
    (eq-or-lt_of_le (omega (arith, lt)))

pub none_is : (ks : List PreparedKey) (key : List ℕ × List ℕ)
    → ((j : ℕ) (d : PreparedKey) → j < length ks → prepared_key (get_or ks j d) ≢ key) → ¬ Contains (map prepared_key ks) key
none_is [] key none p = absurd (omega (arith, p.1))
none_is (k ∷ ks) key none p =
    let lt : p.0 < length (k ∷ ks) = rw (← length-map (k ∷ ks) prepared_key) p.1 in
    none p.0 k lt (sym (get_or-map prepared_key (k ∷ ks) p.0 k key lt) ∙ p.2)

-- a key whose content is a modulus and an exponent is prepared as they are
pub prepared_as : (p : PreparedRsa) (k : Key) (n e : List ℕ) → ModulusExponent n e ≡ key_content k
    → IsPreparedKey p k ≡ IsPrepared p n e
prepared_as p (Plain f b) n e h = cc
prepared_as p (Components m x) n e h =
    let same_n : n ≡ m = cc in
    let same_e : e ≡ x = cc in
    rw (same_n, same_e) refl
