-- The sameness of headers, with any two floats counted as equal, and the bytes that a header feeds
-- to a hasher.
use Rattle.std.specs.Prelude.{◌≡◌, ◌&&◌, ◌++◌, Bool, pos, Option, Some, None, option_map, refl}
use denote.Enum.Bare.{sameb}
use Rattle.std.specs.Bool.{Decides}
use Rattle.std.specs.Cmp.{IsEquivalence}
use Rattle.std.specs.Cmp.Lexicographic.{pointwise}
use Rattle.std.specs.Hash.{HashWrites, Alike, str, slice, option, isize}
use Rattle.std.specs.Str.{bytes_eq}
use Rattle.std.proofs.Common.{ap}
use Rattle.std.proofs.lemmas.Slice.Eq.{bytes_eq-Decides}
use Rattle.jwt_base.specs.contracts.algorithms.Algorithm.{the_type}
use Rattle.jwt_base.specs.DataEq.{members_eq}
use Rattle.jwt_base.specs.equality.DataEqLaws.{members_decides}
use Rattle.jwt_base.specs.equality.Decided.{option_eq, option_decides, option_decides_itself, and_decides, same_as}
use Rattle.jwt_base.specs.equality.Decided.{texts_decides, decided_by, fed_by_mark}
use Rattle.jwt_base.specs.equality.NamesFed.{names_fed, names_marked}
use Rattle.jwt_base.specs.equality.VariantsSame.{variant_decides, variant_fed}
use Rattle.jwt_header.specs.Header.{marked_header}
use Rattle.jwt_header.specs.equality.NamesSame.{enc_eq, enc_decides, enc_fed, zip_eq, zip_decides, zip_fed}
use Rattle.jwt_header.specs.declared.header.Header.{Header}
use Rattle.jwt_keys.specs.Jwk.{marked_key}
use Rattle.jwt_keys.specs.equality.JwkSame.{key_eq, key_decides, key_fed, key_marked}
use Rattle.jwt_keys.specs.declared.jwk.Jwk.{Jwk}

abbrev pub header_eq : Header → Header → Bool
header_eq g h =
    sameb the_type g.alg h.alg
    && (option_eq bytes_eq g.typ h.typ
    && (option_eq bytes_eq g.cty h.cty
    && (option_eq bytes_eq g.jku h.jku
    && (option_eq key_eq g.jwk h.jwk
    && (option_eq bytes_eq g.kid h.kid
    && (option_eq bytes_eq g.x5u h.x5u
    && (option_eq bytes_eq g.x5t h.x5t
    && (option_eq bytes_eq g.x5t_s256 h.x5t_s256
    && (option_eq bytes_eq g.url h.url
    && (option_eq bytes_eq g.nonce h.nonce
    && (option_eq (pointwise bytes_eq) g.x5c h.x5c
    && (option_eq (pointwise bytes_eq) g.crit h.crit
    && (option_eq enc_eq g.enc h.enc
    && (option_eq zip_eq g.zip h.zip
    && (members_eq g.extras h.extras)))))))))))))))

pub header_decides : (g h : Header) → Decides (header_eq g h) (marked_header g ≡ marked_header h)
header_decides g h = same_as _
    (and_decides _ _ (variant_decides the_type tt g.alg h.alg) (
    and_decides _ _ (option_decides_itself bytes_eq bytes_eq-Decides g.typ h.typ) (
    and_decides _ _ (option_decides_itself bytes_eq bytes_eq-Decides g.cty h.cty) (
    and_decides _ _ (option_decides_itself bytes_eq bytes_eq-Decides g.jku h.jku) (
    and_decides _ _ (option_decides key_eq marked_key key_decides g.jwk h.jwk) (
    and_decides _ _ (option_decides_itself bytes_eq bytes_eq-Decides g.kid h.kid) (
    and_decides _ _ (option_decides_itself bytes_eq bytes_eq-Decides g.x5u h.x5u) (
    and_decides _ _ (option_decides_itself bytes_eq bytes_eq-Decides g.x5t h.x5t) (
    and_decides _ _ (option_decides_itself bytes_eq bytes_eq-Decides g.x5t_s256 h.x5t_s256) (
    and_decides _ _ (option_decides_itself bytes_eq bytes_eq-Decides g.url h.url) (
    and_decides _ _ (option_decides_itself bytes_eq bytes_eq-Decides g.nonce h.nonce) (
    and_decides _ _ (option_decides_itself (pointwise bytes_eq) texts_decides g.x5c h.x5c) (
    and_decides _ _ (option_decides_itself (pointwise bytes_eq) texts_decides g.crit h.crit) (
    and_decides _ _ (option_decides_itself enc_eq enc_decides g.enc h.enc) (
    and_decides _ _ (option_decides_itself zip_eq zip_decides g.zip h.zip) (members_decides g.extras h.extras))))))))))))))))
    (λ p i. record {
      alg = p.0 i;
      typ = p.1.0 i;
      cty = p.1.1.0 i;
      jku = p.1.1.1.0 i;
      jwk = p.1.1.1.1.0 i;
      kid = p.1.1.1.1.1.0 i;
      x5u = p.1.1.1.1.1.1.0 i;
      x5t = p.1.1.1.1.1.1.1.0 i;
      x5t_s256 = p.1.1.1.1.1.1.1.1.0 i;
      url = p.1.1.1.1.1.1.1.1.1.0 i;
      nonce = p.1.1.1.1.1.1.1.1.1.1.0 i;
      x5c = p.1.1.1.1.1.1.1.1.1.1.1.0 i;
      crit =
          p.1.1.1.1.1.1.1.1.1.1.1.1.0 i;
      enc = p.1.1.1.1.1.1.1.1.1.1.1.1.1.0 i;
      zip = p.1.1.1.1.1.1.1.1.1.1.1.1.1.1.0 i;
      extras = p.1.1.1.1.1.1.1.1.1.1.1.1.1.1.1 i;
    })
    (λ e. (
      ap (λ x. x.alg) e,
      (
        ap (λ x. x.typ) e,
        (
          ap (λ x. x.cty) e,
          (
            ap (λ x. x.jku) e,
            (
              ap (λ x. x.jwk) e,
              (
                ap (λ x. x.kid) e,
                (
                  ap (λ x. x.x5u) e,
                  (
                    ap (λ x. x.x5t) e,
                    (
                      ap (λ x. x.x5t_s256) e,
                      (
                        ap (λ x. x.url) e,
                        (
                          ap (λ x. x.nonce) e,
                          (
                            ap (λ x. x.x5c) e,
                            (ap (λ x. x.crit) e, (ap (λ x. x.enc) e, (ap (λ x. x.zip) e, ap (λ x. x.extras) e))),
                          ),
                        ),
                      ),
                    ),
                  ),
                ),
              ),
            ),
          ),
        ),
      ),
    ))

pub header_eq_equiv : IsEquivalence header_eq
header_eq_equiv = decided_by header_eq marked_header header_decides

-- of free members their names alone
abbrev pub header_fed : Header → HashWrites
header_fed h = variant_fed the_type h.alg ++ option str h.typ ++ option str h.cty ++ option str h.jku
    ++ option key_fed h.jwk ++ option str h.kid ++ option str h.x5u ++ option str h.x5t ++ option str h.x5t_s256
    ++ option str h.url ++ option str h.nonce ++ option (slice str) h.x5c ++ option (slice str) h.crit
    ++ option enc_fed h.enc ++ option zip_fed h.zip ++ names_fed h.extras

jwk_marked : (o : Option Jwk) → option key_fed o ≡ option key_fed (option_map marked_key o)
jwk_marked None = refl
jwk_marked (Some k) = ap (λ w. isize (pos 1) ++ w) (key_marked k)

header_marked : (h : Header) → header_fed h ≡ header_fed (marked_header h)
header_marked h = λ i. variant_fed the_type h.alg ++ option str h.typ ++ option str h.cty ++ option str h.jku
    ++ jwk_marked h.jwk i ++ option str h.kid ++ option str h.x5u ++ option str h.x5t ++ option str h.x5t_s256
    ++ option str h.url ++ option str h.nonce ++ option (slice str) h.x5c ++ option (slice str) h.crit
    ++ option enc_fed h.enc ++ option zip_fed h.zip ++ names_marked h.extras i

pub header_alike : Alike header_eq header_fed
header_alike = fed_by_mark header_eq marked_header header_decides header_fed header_fed header_marked
