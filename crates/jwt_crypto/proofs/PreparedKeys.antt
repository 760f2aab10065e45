-- Which secrets are prepared, key by key.
use Rattle.std.proofs.Common.{◌≡◌, ◌≢◌, ◌↔◌, ◌∙◌, ◌<◌, ◌+◌, ℕ, List, [], ◌∷◌, ◌++◌, length, map, take, drop, set}
use Rattle.std.proofs.Common.{get_or, sym, ap, refl, arith, Some, None, ⊎_elim}
use Rattle.std.specs.Prelude.{Contains}
use Rattle.std.proofs.Math.Nat.{eq-or-lt_of_le}
use Rattle.std.proofs.lemmas.List.{get_or-map, get_or_default, length-map, map-set}
use Rattle.std.proofs.lemmas.List.Edits.{map_over_more}
use Rattle.jwt_base.specs.declared.algorithms.Algorithm.{Algorithm}
use Rattle.jwt_crypto.specs.Hmac.{hmac}
use Rattle.jwt_crypto.specs.HmacKeys.{hash_for, algorithm_for}
use Rattle.jwt_crypto.specs.HmacHashers.{hash_of, IsCodeByHeld}
use Rattle.jwt_crypto.specs.HmacPrepared.{prepared_key, cleared_key, IsPrepared}
use Rattle.jwt_crypto.specs.declared.hmac.Hash.{Hash}
use Rattle.jwt_crypto.specs.declared.hmac.Hash.TheVariants.{Sha256, Sha384, Sha512}
use Rattle.jwt_crypto.specs.declared.prepared_hashers.Hashers.{Hashers}
use Rattle.jwt_crypto.specs.declared.prepared_hashers.PreparedKey.{PreparedKey}
use Rattle.jwt_crypto.specs.declared.prepared.PreparedHmac.{PreparedHmac}
use Rattle.jwt_crypto.proofs.PreparedSecrets.{code_of_one}

hash_again : (h : Hash) → hash_for (algorithm_for h) ≡ Some h
hash_again Sha256 = refl
hash_again Sha384 = refl
hash_again Sha512 = refl

-- algorithms of different hashes differ
same_hash : (g h : Hash) → algorithm_for g ≡ algorithm_for h → g ≡ h
same_hash g h e =
    let p = hash_again g in
    let q = hash_again h in
    let r = ap hash_for e in
    cc

pub same_key : (k : PreparedKey) (h : Hash) (secret : List ℕ) → prepared_key k ≡ (algorithm_for h, secret)
    → (hash_of k.held.hashers ≡ h) × (k.secret.items ≡ secret)
same_key k h secret e = (same_hash (hash_of k.held.hashers) h (ap (λ p. p.0) e), ap (λ p. p.1) e)

pub one_is : (ks : List PreparedKey) (i : ℕ) (d : PreparedKey) (key : Algorithm × List ℕ) → i < length ks
    → prepared_key (get_or ks i d) ≡ key → Contains (map prepared_key ks) key
one_is ks i d key lt e = (i, rw (length-map ks prepared_key) lt, get_or-map prepared_key ks i d key lt ∙ e)

-- no key before one place and not the one there: none before the next place
pub one_more : (ks : List PreparedKey) (i : ℕ) (k : PreparedKey) (key : Algorithm × List ℕ) → i < length ks
    → k ≡ get_or ks i k → prepared_key k ≢ key
    → ((j : ℕ) (d : PreparedKey) → j < i → prepared_key (get_or ks j d) ≢ key)
    → (j : ℕ) (d : PreparedKey) → j < i + 1 → prepared_key (get_or ks j d) ≢ key
one_more ks i k key inside here other before j d lt e = ⊎_elim
    (λ same. other (ap prepared_key (here ∙ get_or_default ks i k d inside) ∙ rw (← same) e))
    (λ less. before j d less e)
    (eq-or-lt_of_le (omega (arith, lt)))

pub none_is : (ks : List PreparedKey) (key : Algorithm × List ℕ)
    → ((j : ℕ) (d : PreparedKey) → j < length ks → prepared_key (get_or ks j d) ≢ key) → ¬ Contains (map prepared_key ks) key
none_is [] key none p = absurd (omega (arith, p.1))
none_is (k ∷ ks) key none p =
    let lt : p.0 < length (k ∷ ks) = rw (← length-map (k ∷ ks) prepared_key) p.1 in
    none p.0 k lt (sym (get_or-map prepared_key (k ∷ ks) p.0 k key lt) ∙ p.2)

-- for another algorithm than those of HMAC no secret is prepared
pub none_without_hash : (p : PreparedHmac) (a : Algorithm) (secret : List ℕ) → hash_for a ≡ None → ¬ IsPrepared p a secret
none_without_hash p a secret none = none_is p.keys.items (a, secret) λ j d lt e.
    let there = hash_again (hash_of (get_or p.keys.items j d).held.hashers) in
    let same = ap hash_for (ap (λ q. q.0) e) in
    cc

-- the code by the hashers that are kept of a secret
pub kept_code : (h : Hashers) (k : PreparedKey) (g : Hash) (secret m s : List ℕ) → h ≡ k.held.hashers
    → prepared_key k ≡ (algorithm_for g, secret) → IsCodeByHeld h m s ↔ (s ≡ hmac g secret m)
kept_code h k g secret m s e p =
    let same = same_key k g secret p in
    rw e (rw (← same.0) (rw (← same.1) (code_of_one k.held.hashers k.secret.items m s k.of_secret)))

-- one key more is cleared
pub cleared_more : (ks : List PreparedKey) (ps : List (Algorithm × List ℕ)) (i : ℕ) (old new : PreparedKey)
    → i < length ps → i < length ks → map prepared_key ks ≡ map cleared_key (take i ps) ++ drop i ps
    → old ≡ get_or ks i old → prepared_key new ≡ cleared_key (prepared_key old)
    → map prepared_key (set ks i new) ≡ map cleared_key (take (i + 1) ps) ++ drop (i + 1) ps
cleared_more ks ps i old new p q so_far here e =
    map-set prepared_key ks i new ∙ ap (set (map prepared_key ks) i) e
    ∙ map_over_more cleared_key ps (map prepared_key ks) i (prepared_key old) p so_far (ap prepared_key here
    ∙ sym (get_or-map prepared_key ks i old (prepared_key old) q))
