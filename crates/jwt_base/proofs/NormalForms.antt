-- Values that are known by their strings, and members that may be absent: a value that was read is
-- its own normal form.
use Rattle.std.proofs.Common.{◌≡◌, ℕ, List, [], ◌∷◌, Bool, true, false, cond, bytes_eq, Option, Some, None, option_map}
use Rattle.std.proofs.Common.{unwrap_or, refl, sym, ap}
use Rattle.serde_json.specs.Data.{Data}
use Rattle.serde_json.specs.Find.{as_str}
use Rattle.jwt_base.specs.Members.{present, read_option, optional}
use Rattle.jwt_base.specs.Spelling.{spelled}
use Rattle.jwt_base.proofs.MembersWritten.{same_texts}

spelled_at : {A : Type 0} (b : Bool) (text : A → List ℕ) (s : List ℕ) (a other : A) (more : Option A)
    → bytes_eq s (text a) ≡ b → text (unwrap_or more other) ≡ s → text (unwrap_or (cond b (Some a) more) other) ≡ s
spelled_at true text s a other more e later = sym (same_texts s (text a) e)
spelled_at false text s a other more e later = later

-- the value that a string names keeps that string
pub spelled_text : {A : Type 0} (text : A → List ℕ) (all : List A) (s : List ℕ) (other : A) → text other ≡ s
    → text (unwrap_or (spelled text all s) other) ≡ s
spelled_text text [] s other e = e
spelled_text text (a ∷ all) s other e = spelled_at _ text s a other (spelled text all s) refl (spelled_text text all s other e)

pub again_within : {A : Type 0} (f : A → A) → ((a : A) → f (f a) ≡ f a) → (o : Option A) → option_map f (option_map f o)
    ≡ option_map f o
again_within f same None = refl
again_within f same (Some a) = ap Some (same a)

own_present : {A : Type 0} (reader : Data → Option A) (f : A → A) → ((d : Data) (a : A) → reader d ≡ Some a → f a ≡ a)
    → (o : Option Data) (x : Option A) → read_option reader o ≡ Some x → option_map f x ≡ x
own_present reader f same None x e = let none : None ≡ x = ap (λ o. unwrap_or o x) e in rw (← none) refl
own_present reader f same (Some d) None e = refl
own_present reader f same (Some d) (Some a) e = ap Some (same d a (map_some (reader d) a e))
  where
    map_some : {A : Type 0} (o : Option A) (a : A) → option_map Some o ≡ Some (Some a) → o ≡ Some a
    map_some None a e = absurd (cc)
    map_some (Some b) a e = ap (λ o. unwrap_or o (Some b)) e

-- an optional member that was read is its own normal form, if the value that its reader gives is
pub own_optional : {A : Type 0} (reader : Data → Option A) (f : A → A)
    → ((d : Data) (a : A) → reader d ≡ Some a → f a ≡ a) → (o : Option Data) (x : Option A) → optional reader o ≡ Some x
    → option_map f x ≡ x
own_optional reader f same o x e = own_present reader f same (present o) x e

own_named_at : {A : Type 0} (text : A → List ℕ) (named : List ℕ → A) → ((s : List ℕ) → text (named s) ≡ s)
    → (o : Option (List ℕ)) (a : A) → option_map named o ≡ Some a → named (text a) ≡ a
own_named_at text named kept None a e = absurd (cc)
own_named_at text named kept (Some s) a e = let is : named s ≡ a = ap (λ o. unwrap_or o a) e in rw (← is) (ap named (kept s))

-- a value read by its string is the one that its string names
pub own_named : {A : Type 0} (text : A → List ℕ) (named : List ℕ → A) → ((s : List ℕ) → text (named s) ≡ s)
    → (d : Data) (a : A) → option_map named (as_str d) ≡ Some a → named (text a) ≡ a
own_named text named kept d a e = own_named_at text named kept (as_str d) a e
