-- A header, written and read again, is its normal form.
use Rattle.std.proofs.Common.{cond, ◌≡◌, inl, inr, ℕ, List, [], ◌∷◌, Option, Some, None, option_map, unwrap_or, codes}
use Rattle.std.proofs.Common.{true, false, is_some, subst, refl, sym, ap, ◌∙◌}
use Rattle.serde_json.specs.Data.{Data, Members, string, object}
use Rattle.serde_json.specs.Find.{get, get_member, as_null, as_object}
use Rattle.serde_json.specs.Written.{has_float, members_have_float}
use Rattle.jwt_base.specs.Algorithm.{name_of, algorithm_named}
use Rattle.jwt_base.specs.declared.algorithms.Algorithm.{Algorithm}
use Rattle.jwt_base.specs.declared.algorithms.Algorithm.TheVariants.{HS256, HS384, HS512, RS256, RS384, RS512, PS256}
use Rattle.jwt_base.specs.declared.algorithms.Algorithm.TheVariants.{PS384, PS512, ES256, ES384, EdDSA}
use Rattle.jwt_base.specs.Kind as kind
use Rattle.jwt_base.specs.KindOf.{IsMemory, RefusesAs}
use Rattle.jwt_base.specs.declared.errors.Error.{Error}
use Rattle.jwt_base.specs.Members.{present, optional, ReadsMember, ReadsOptional, is_named, has_named, without}
use Rattle.jwt_base.specs.Members.{put_some, texts_value, written_optional}
use Rattle.jwt_base.proofs.FreeMembers.{has_named-without, without-free, no_float-put, no_float-put_some, no_float-texts_value}
use Rattle.jwt_base.proofs.MembersWritten.{absent, or_none, get_member-put_at, get_member-put_some, without-put}
use Rattle.jwt_base.proofs.MembersWritten.{without-put_some, optional-string, optional-texts_value}
use Rattle.jwt_base.proofs.NormalForms.{spelled_text, again_within, own_optional, own_named}
use Rattle.jwt_header.specs.Enc.{enc_text, enc_named, known_encs, enc_from, enc_value, normal_enc}
use Rattle.jwt_header.specs.Extras.{header_names, IsExtras}
use Rattle.jwt_header.specs.Header.{ReadsHeader, with_named, header_members, header_value}
use Rattle.jwt_header.specs.HeaderWritten.{normal_header, IsNormal, HasNormalForm}
use Rattle.jwt_keys.specs.Jwk.{ReadsKey, key_members, key_value}
use Rattle.jwt_keys.specs.JwkWritten.{normal_key}
use Rattle.jwt_keys.specs.declared.jwk.Jwk.{Jwk}
use Rattle.jwt_keys.proofs.JwkLemmas.{reads_one_key, reads_written as reads_written_key}
use Rattle.jwt_keys.proofs.JwkLemmas.{read_is_normal as read_key_is_normal, has_normal_form as key_has_normal_form}
use Rattle.jwt_keys.proofs.JwkLemmas.{written_no_float as written_key_no_float}
use Rattle.jwt_header.specs.Zip.{zip_text, zip_named, zip_from, zip_value, normal_zip}
use Rattle.jwt_header.specs.declared.header.Header.{Header}
use Rattle.jwt_header.specs.declared.names.Enc.{Enc}
use Rattle.jwt_header.specs.declared.names.Enc.TheVariants as enc
use Rattle.jwt_header.specs.declared.names.Zip.{Zip}
use Rattle.jwt_header.specs.declared.names.Zip.TheVariants as zip

-- optional members that a relation reads
one_member : {A : Type 0} (R : Data → A → Type 0) → ((d : Data) (a b : A) → R d a → R d b → a ≡ b)
    → (o : Option Data) (x y : Option A) → ReadsMember R o x → ReadsMember R o y → x ≡ y
one_member R one None x y r s = r ∙ sym s
one_member R one (Some d) None y r s = absurd r
one_member R one (Some d) (Some a) None r s = absurd s
one_member R one (Some d) (Some a) (Some b) r s = ap Some (one d a b r s)

one_optional : {A : Type 0} (R : Data → A → Type 0) → ((d : Data) (a b : A) → R d a → R d b → a ≡ b)
    → (o : Option Data) (x y : Option A) → ReadsOptional R o x → ReadsOptional R o y → x ≡ y
one_optional R one o x y r s = one_member R one (present o) x y r s

normal_member : {A : Type 0} (R : Data → A → Type 0) (f : A → A) → ((d : Data) (a : A) → R d a → f a ≡ a)
    → (o : Option Data) (x : Option A) → ReadsMember R o x → option_map f x ≡ x
normal_member R f same None x r = subst (λ y. option_map f y ≡ y) (sym r) refl
normal_member R f same (Some d) None r = refl
normal_member R f same (Some d) (Some a) r = ap Some (same d a r)

normal_optional : {A : Type 0} (R : Data → A → Type 0) (f : A → A) → ((d : Data) (a : A) → R d a → f a ≡ a)
    → (o : Option Data) (x : Option A) → ReadsOptional R o x → option_map f x ≡ x
normal_optional R f same o x r = normal_member R f same (present o) x r

can_write_member : (x : Option Jwk) (o : Option Data) → ReadsMember ReadsKey o x
    → (w : Option Data) × (written_optional key_value x ≡ Some w)
can_write_member None o r = (None, refl)
can_write_member (Some k) None r = absurd (cc)
can_write_member (Some k) (Some d) r = let w = (read_key_is_normal d k r).written in (Some w.0, rw w.1 refl)

can_write : (x : Option Jwk) (o : Option Data) → ReadsOptional ReadsKey o x
    → (w : Option Data) × (written_optional key_value x ≡ Some w)
can_write x o r = can_write_member x (present o) r

-- a written key is an object
not_null_at : (k : Jwk) (d : Data) (o : Option Members) → option_map object o ≡ Some d → is_some (as_null d) ≡ false
not_null_at k d None is = absurd (cc)
not_null_at k d (Some ms) is = subst (λ v. is_some (as_null v) ≡ false) (ap (λ o. unwrap_or o d) is) refl

key_present : (k : Jwk) (o : Option Data) (jwk : Option Data) → key_value k ≡ o → option_map Some o ≡ Some jwk
    → ReadsOptional ReadsKey jwk (Some (normal_key k))
key_present k None jwk e is = absurd (cc)
key_present k (Some d) jwk e is = subst (λ x. ReadsOptional ReadsKey x (Some (normal_key k)))
    (ap (λ x. unwrap_or x jwk) is) (subst (λ b. ReadsMember ReadsKey (cond b None (Some d)) (Some (normal_key k)))
    (sym (not_null_at k d (key_members k) e)) (reads_written_key k d e))

-- a key that may be absent, written and read again, is its normal form
reads_jwk : (o : Option Jwk) (jwk : Option Data) → written_optional key_value o ≡ Some jwk
    → ReadsOptional ReadsKey jwk (option_map normal_key o)
reads_jwk None jwk is = let none : None ≡ jwk = ap (λ x. unwrap_or x jwk) is in
    subst (λ x. ReadsOptional ReadsKey x None) none refl
reads_jwk (Some k) jwk is = key_present k _ jwk refl is

-- a value reads as one header at most
pub one_header : (d : Data) (g h : Header) → ReadsHeader d g → ReadsHeader d h → g ≡ h
one_header d g h r s =
    let alg : g.alg ≡ h.alg = cc (r.alg, s.alg) in
    let typ : g.typ ≡ h.typ = cc (r.typ, s.typ) in
    let cty : g.cty ≡ h.cty = cc (r.cty, s.cty) in
    let jku : g.jku ≡ h.jku = cc (r.jku, s.jku) in
    let jwk : g.jwk ≡ h.jwk = one_optional ReadsKey reads_one_key (get (codes "jwk") d) g.jwk h.jwk r.jwk s.jwk in
    let kid : g.kid ≡ h.kid = cc (r.kid, s.kid) in
    let x5u : g.x5u ≡ h.x5u = cc (r.x5u, s.x5u) in
    let x5t : g.x5t ≡ h.x5t = cc (r.x5t, s.x5t) in
    let x5t_s256 : g.x5t_s256 ≡ h.x5t_s256 = cc (r.x5t_s256, s.x5t_s256) in
    let url : g.url ≡ h.url = cc (r.url, s.url) in
    let nonce : g.nonce ≡ h.nonce = cc (r.nonce, s.nonce) in
    let x5c : g.x5c ≡ h.x5c = cc (r.x5c, s.x5c) in
    let crit : g.crit ≡ h.crit = cc (r.crit, s.crit) in
    let enc : g.enc ≡ h.enc = cc (r.enc, s.enc) in
    let zip : g.zip ≡ h.zip = cc (r.zip, s.zip) in
    let extras : g.extras ≡ h.extras = cc (r.extras, s.extras) in
    λ i. record {
      alg = alg i;
      typ = typ i;
      cty = cty i;
      jku = jku i;
      jwk = jwk i;
      kid = kid i;
      x5u = x5u i;
      x5t = x5t i;
      x5t_s256 = x5t_s256 i;
      url = url i;
      nonce = nonce i;
      x5c = x5c i;
      crit = crit i;
      enc = enc i;
      zip =
          zip i;
      extras = extras i;
    }

optional-enc_value : (o : Option Enc) → optional enc_from (option_map enc_value o) ≡ Some (option_map normal_enc o)
optional-enc_value None = refl
optional-enc_value (Some e) = refl

optional-zip_value : (o : Option Zip) → optional zip_from (option_map zip_value o) ≡ Some (option_map normal_zip o)
optional-zip_value None = refl
optional-zip_value (Some z) = refl

named_back : (a : Algorithm) → algorithm_named (name_of a) ≡ Some a
named_back HS256 = refl
named_back HS384 = refl
named_back HS512 = refl
named_back RS256 = refl
named_back RS384 = refl
named_back RS512 = refl
named_back PS256 = refl
named_back PS384 = refl
named_back PS512 = refl
named_back ES256 = refl
named_back ES384 = refl
named_back EdDSA = refl

-- a name of the header is not one of the extras'
at_name : (h : Header) → IsExtras h.extras → (q : List ℕ) → is_named header_names q ≡ true → get_member q h.extras ≡ None
at_name h x q named = absent header_names h.extras (without-free header_names h.extras x.free) q named

-- the members with the value that the key was written as
abbrev members_with : Header → Option Data → Members
members_with h jwk = with_named h (put_some (codes "jwk") jwk h.extras)

get-typ : (h : Header) (jwk : Option Data) → IsExtras h.extras → get_member (codes "typ") (members_with h jwk)
    ≡ option_map string h.typ
get-typ h jwk x = simp (get_member-put_at, get_member-put_some, at_name h x (codes "typ") refl, or_none)

get-cty : (h : Header) (jwk : Option Data) → IsExtras h.extras → get_member (codes "cty") (members_with h jwk)
    ≡ option_map string h.cty
get-cty h jwk x = simp (get_member-put_at, get_member-put_some, at_name h x (codes "cty") refl, or_none)

get-jku : (h : Header) (jwk : Option Data) → IsExtras h.extras → get_member (codes "jku") (members_with h jwk)
    ≡ option_map string h.jku
get-jku h jwk x = simp (get_member-put_at, get_member-put_some, at_name h x (codes "jku") refl, or_none)

get-kid : (h : Header) (jwk : Option Data) → IsExtras h.extras → get_member (codes "kid") (members_with h jwk)
    ≡ option_map string h.kid
get-kid h jwk x = simp (get_member-put_at, get_member-put_some, at_name h x (codes "kid") refl, or_none)

get-x5u : (h : Header) (jwk : Option Data) → IsExtras h.extras → get_member (codes "x5u") (members_with h jwk)
    ≡ option_map string h.x5u
get-x5u h jwk x = simp (get_member-put_at, get_member-put_some, at_name h x (codes "x5u") refl, or_none)

get-x5t : (h : Header) (jwk : Option Data) → IsExtras h.extras → get_member (codes "x5t") (members_with h jwk)
    ≡ option_map string h.x5t
get-x5t h jwk x = simp (get_member-put_at, get_member-put_some, at_name h x (codes "x5t") refl, or_none)

get-x5t_s256 : (h : Header) (jwk : Option Data) → IsExtras h.extras → get_member (codes "x5t#S256") (members_with h jwk)
    ≡ option_map string h.x5t_s256
get-x5t_s256 h jwk x = simp (get_member-put_at, get_member-put_some, at_name h x (codes "x5t#S256") refl, or_none)

get-url : (h : Header) (jwk : Option Data) → IsExtras h.extras → get_member (codes "url") (members_with h jwk)
    ≡ option_map string h.url
get-url h jwk x = simp (get_member-put_at, get_member-put_some, at_name h x (codes "url") refl, or_none)

get-nonce : (h : Header) (jwk : Option Data) → IsExtras h.extras → get_member (codes "nonce") (members_with h jwk)
    ≡ option_map string h.nonce
get-nonce h jwk x = simp (get_member-put_at, get_member-put_some, at_name h x (codes "nonce") refl, or_none)

get-x5c : (h : Header) (jwk : Option Data) → IsExtras h.extras → get_member (codes "x5c") (members_with h jwk)
    ≡ option_map texts_value h.x5c
get-x5c h jwk x = simp (get_member-put_at, get_member-put_some, at_name h x (codes "x5c") refl, or_none)

get-crit : (h : Header) (jwk : Option Data) → IsExtras h.extras → get_member (codes "crit") (members_with h jwk)
    ≡ option_map texts_value h.crit
get-crit h jwk x = simp (get_member-put_at, get_member-put_some, at_name h x (codes "crit") refl, or_none)

get-enc : (h : Header) (jwk : Option Data) → IsExtras h.extras → get_member (codes "enc") (members_with h jwk)
    ≡ option_map enc_value h.enc
get-enc h jwk x = simp (get_member-put_at, get_member-put_some, at_name h x (codes "enc") refl, or_none)

get-zip : (h : Header) (jwk : Option Data) → IsExtras h.extras → get_member (codes "zip") (members_with h jwk)
    ≡ option_map zip_value h.zip
get-zip h jwk x = simp (get_member-put_at, get_member-put_some, at_name h x (codes "zip") refl, or_none)

get-jwk : (h : Header) (jwk : Option Data) → IsExtras h.extras → get_member (codes "jwk") (members_with h jwk) ≡ jwk
get-jwk h jwk x = simp (get_member-put_at, get_member-put_some, at_name h x (codes "jwk") refl, or_none)

without-members_with : (h : Header) (jwk : Option Data) → IsExtras h.extras → without header_names (members_with h jwk)
    ≡ h.extras
without-members_with h jwk x =
    let none = without-put_some header_names in
    simp (
      without-put header_names (codes "alg") refl,
      none (codes "typ") refl,
      none (codes "cty") refl,
      none (codes "jku") refl,
      none (codes "kid") refl,
      none (codes "x5u") refl,
      none (codes "x5t") refl,
      none (codes "x5t#S256") refl,
      none (codes "url") refl,
      none (codes "nonce") refl,
      none (codes "x5c") refl,
      none (codes "crit") refl,
      none (codes "enc") refl,
      none (codes "zip") refl,
      none (codes "jwk") refl,
    )
    (without-free header_names h.extras x.free)

reads_members : (h : Header) (jwk : Option Data) → IsExtras h.extras
    → ReadsOptional ReadsKey jwk (option_map normal_key h.jwk) → ReadsHeader (object (members_with h jwk)) (normal_header h)
reads_members h jwk x key = record {
  alg = simp (get_member-put_at) (named_back h.alg);
  typ = rw (get-typ h jwk x) (optional-string h.typ);
  cty = rw (get-cty h jwk x) (optional-string h.cty);
  jku = rw (get-jku h jwk x) (optional-string h.jku);
  jwk = rw (get-jwk h jwk x) key;
  kid = rw (get-kid h jwk x) (optional-string h.kid);
  x5u = rw (get-x5u h jwk x) (optional-string h.x5u);
  x5t = rw (get-x5t h jwk x) (optional-string h.x5t);
  x5t_s256 = rw (get-x5t_s256 h jwk x) (optional-string h.x5t_s256);
  url = rw (get-url h jwk x) (optional-string h.url);
  nonce = rw (get-nonce h jwk x) (optional-string h.nonce);
  x5c = rw (get-x5c h jwk x) (optional-texts_value h.x5c);
  crit = rw (get-crit h jwk x) (optional-texts_value h.crit);
  enc = rw (get-enc h jwk x) (optional-enc_value h.enc);
  zip = rw (get-zip h jwk x) (optional-zip_value h.zip);
  extras = ap Some (without-members_with h jwk x);
  no_float = x.no_float;
}

written_at : (h : Header) (d : Data) (o : Option (Option Data)) → IsExtras h.extras → written_optional key_value h.jwk
    ≡ o → option_map object (option_map (members_with h) o) ≡ Some d → ReadsHeader d (normal_header h)
written_at h d None x e is = absurd (cc)
written_at h d (Some jwk) x e is = subst (λ v. ReadsHeader v (normal_header h)) (ap (λ o. unwrap_or o d) is)
    (reads_members h jwk x (reads_jwk h.jwk jwk e))

pub reads_written : (h : Header) (d : Data) → IsExtras h.extras → header_value h ≡ Some d → ReadsHeader d (normal_header h)
reads_written h d x is = written_at h d _ x refl is

enc_kept : (s : List ℕ) → enc_text (enc_named s) ≡ s
enc_kept s = spelled_text enc_text known_encs s (enc.Other s) refl

zip_kept : (s : List ℕ) → zip_text (zip_named s) ≡ s
zip_kept s = spelled_text zip_text (zip.Deflate ∷ []) s (zip.Other s) refl

normal_twice : (h : Header) → normal_header (normal_header h) ≡ normal_header h
normal_twice h =
    let enc = again_within normal_enc (λ e. ap enc_named (enc_kept (enc_text e))) h.enc in
    let zip = again_within normal_zip (λ z. ap zip_named (zip_kept (zip_text z))) h.zip in
    let jwk = again_within normal_key (λ k. (key_has_normal_form k).once) h.jwk in
    λ i. record (normal_header h) { enc = enc i; zip = zip i; jwk = jwk i }

-- a header that was read is its own normal form
pub read_is_normal : (d : Data) (h : Header) → IsExtras h.extras → ReadsHeader d h → IsNormal h
read_is_normal d h x r =
    let enc = own_optional enc_from normal_enc (own_named enc_text enc_named enc_kept) (get (codes "enc") d) h.enc r.enc in
    let zip = own_optional zip_from normal_zip (own_named zip_text zip_named zip_kept) (get (codes "zip") d) h.zip r.zip in
    let jwk = normal_optional ReadsKey normal_key (λ e k read. (read_key_is_normal e k read).itself)
    (get (codes "jwk") d) h.jwk r.jwk in
    let written = can_write h.jwk (get (codes "jwk") d) r.jwk in
    record {
      itself = λ i. record h { enc = enc i; zip = zip i; jwk = jwk i };
      extras = x;
      written = (object (members_with h written.0), rw written.1 refl);
    }

extras_at : (o : Option Members) (ms : Members) → option_map (without header_names) o ≡ Some ms
    → has_named header_names ms ≡ false
extras_at None ms e = absurd (cc)
extras_at (Some ns) ms e = subst (λ x. has_named header_names x ≡ false) (ap (λ o. unwrap_or o ms) e)
    (has_named-without header_names ns)

-- a header that was read can be written
pub read_can_be_written : (d : Data) (h : Header) → ReadsHeader d h → (v : Data) × (header_value h ≡ Some v)
read_can_be_written d h r =
    let extras : IsExtras h.extras = record { free = extras_at (as_object d) h.extras r.extras; no_float = r.no_float } in
    (read_is_normal d h extras r).written

-- so its writing fails by memory alone
pub memory_alone : (d : Data) (h : Header) (e : Error) → ReadsHeader d h → RefusesAs kind.Json (header_value h ≡ None) e
    → IsMemory e
memory_alone d h e r (inl m) = m
memory_alone d h e r (inr (is, none)) = let w = read_can_be_written d h r in absurd (cc (none, w.1))

same_written : (g h : Header) → IsNormal g → IsNormal h → header_value g ≡ header_value h → g ≡ h
same_written g h n m e =
    let d = m.written.0 in
    sym n.itself ∙ one_header d (normal_header g) (normal_header h) (reads_written g d n.extras (e ∙ m.written.1))
    (reads_written h d m.extras m.written.1) ∙ m.itself

pub has_normal_form : (h : Header) → IsExtras h.extras → HasNormalForm h
has_normal_form h x = record {
  reads_back = λ d is g. (
    λ r. one_header d g (normal_header h) r (reads_written h d x is),
    λ e. subst (ReadsHeader d) (sym e) (reads_written h d x is),
  );
  once = normal_twice h;
  told_apart = λ n g m. (same_written h g n m, ap header_value);
}

-- members without a float
abbrev Whole : Type 0
Whole = (ms : Members) × (members_have_float ms ≡ false)

abbrev with_text : List ℕ → Option (List ℕ) → Whole → Whole
with_text k o w = (put_some k (option_map string o) w.0, no_float-put_some string (λ s. refl) k o w.0 w.1)

abbrev with_list : List ℕ → Option (List (List ℕ)) → Whole → Whole
with_list k o w = (put_some k (option_map texts_value o) w.0, no_float-put_some texts_value no_float-texts_value k o w.0 w.1)

abbrev with_enc : Option Enc → Whole → Whole
with_enc o w = (
  put_some (codes "enc") (option_map enc_value o) w.0,
  no_float-put_some enc_value (λ e. refl)
      (codes "enc") o w.0 w.1,
)

abbrev with_zip : Option Zip → Whole → Whole
with_zip o w = (
  put_some (codes "zip") (option_map zip_value o) w.0,
  no_float-put_some zip_value (λ z. refl)
      (codes "zip") o w.0 w.1,
)

abbrev whole_members : Header → Whole → Whole
whole_members h w =
    with_text (codes "typ") h.typ (
    with_text (codes "cty") h.cty (
    with_text (codes "jku") h.jku (
    with_text (codes "kid") h.kid (
    with_text (codes "x5u") h.x5u (
    with_text (codes "x5t") h.x5t (
    with_text (codes "x5t#S256") h.x5t_s256 (
    with_text (codes "url") h.url (
    with_text (codes "nonce") h.nonce (
    with_list (codes "x5c") h.x5c (
    with_list (codes "crit") h.crit (
    with_enc h.enc (
    with_zip h.zip w))))))))))))

named_no_float : (h : Header) (ms : Members) → members_have_float ms ≡ false → members_have_float (with_named h ms) ≡ false
named_no_float h ms none = let w = whole_members h (ms, none) in
    no_float-put (codes "alg") (string (name_of h.alg)) w.0 refl w.1

key_no_float : (k : Jwk) (d : Data) (o : Option Members) → key_members k ≡ o → option_map object o ≡ Some d
    → has_float d ≡ false
key_no_float k d None e is = absurd (cc)
key_no_float k d (Some ms) e is = subst (λ v. has_float v ≡ false) (ap (λ o. unwrap_or o d) is) (written_key_no_float k ms e)

beside_at : (k : Jwk) (o : Option Data) (jwk : Option Data) (ms : Members) → key_value k ≡ o
    → option_map Some o ≡ Some jwk → members_have_float ms ≡ false → members_have_float (put_some (codes "jwk") jwk ms) ≡ false
beside_at k None jwk ms e is none = absurd (cc)
beside_at k (Some d) jwk ms e is none = subst (λ x. members_have_float (put_some (codes "jwk") x ms) ≡ false)
    (ap (λ x. unwrap_or x jwk) is) (no_float-put (codes "jwk") d ms (key_no_float k d (key_members k) refl e) none)

jwk_no_float : (o : Option Jwk) (jwk : Option Data) (ms : Members) → written_optional key_value o ≡ Some jwk
    → members_have_float ms ≡ false → members_have_float (put_some (codes "jwk") jwk ms) ≡ false
jwk_no_float None jwk ms is none = subst (λ x. members_have_float (put_some (codes "jwk") x ms) ≡ false)
    (ap (λ x. unwrap_or x jwk) is) none
jwk_no_float (Some k) jwk ms is none = beside_at k _ jwk ms refl is none

no_float_at : (h : Header) (ms : Members) (o : Option (Option Data)) → IsExtras h.extras
    → written_optional key_value h.jwk ≡ o → option_map (members_with h) o ≡ Some ms → members_have_float ms ≡ false
no_float_at h ms None x e is = absurd (cc)
no_float_at h ms (Some jwk) x e is = subst (λ y. members_have_float y ≡ false) (ap (λ o. unwrap_or o ms) is)
    (named_no_float h (put_some (codes "jwk") jwk h.extras) (jwk_no_float h.jwk jwk h.extras e x.no_float))

-- a written header has no float
pub written_no_float : (h : Header) (ms : Members) → IsExtras h.extras → header_members h ≡ Some ms
    → members_have_float ms ≡ false
written_no_float h ms x is = no_float_at h ms _ x refl is
