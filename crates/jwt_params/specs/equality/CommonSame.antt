-- The sameness of the parameters that keys of every type may have, and the bytes that they feed to
-- a hasher.
use Rattle.std.specs.Prelude.{◌≡◌, ◌&&◌, ◌++◌, Bool, refl}
use denote.Enum.Bare.{sameb}
use Rattle.std.specs.Bool.{Decides}
use Rattle.std.specs.Cmp.{IsEquivalence}
use Rattle.std.specs.Cmp.Lexicographic.{pointwise}
use Rattle.std.specs.Hash.{HashWrites, Alike, str, slice, option}
use Rattle.std.specs.Str.{bytes_eq}
use Rattle.std.proofs.Common.{ap}
use Rattle.std.proofs.lemmas.Slice.Eq.{bytes_eq-Decides}
use Rattle.jwt_base.specs.contracts.algorithms.KeyAlgorithm.{the_type}
use Rattle.jwt_base.specs.equality.Decided.{option_eq, option_decides_itself, and_decides, same_as, texts_decides}
use Rattle.jwt_base.specs.equality.Decided.{decided_by, fed_by_mark}
use Rattle.jwt_base.specs.equality.VariantsSame.{variant_decides, variant_fed}
use Rattle.jwt_params.specs.equality.NamesSame.{use_eq, use_decides, use_fed, operations_eq, operations_decides, operations_fed}
use Rattle.jwt_params.specs.declared.common.CommonParameters.{CommonParameters}

abbrev pub common_eq : CommonParameters → CommonParameters → Bool
common_eq c d =
    option_eq use_eq c.public_key_use d.public_key_use
    && (option_eq operations_eq c.key_operations d.key_operations
    && (option_eq (sameb the_type) c.key_algorithm d.key_algorithm
    && (option_eq bytes_eq c.key_id d.key_id
    && (option_eq bytes_eq c.x509_url d.x509_url
    && (option_eq (pointwise bytes_eq) c.x509_chain d.x509_chain
    && (option_eq bytes_eq c.x509_sha1_fingerprint d.x509_sha1_fingerprint
    && option_eq bytes_eq c.x509_sha256_fingerprint d.x509_sha256_fingerprint))))))

pub common_decides : (c d : CommonParameters) → Decides (common_eq c d) (c ≡ d)
common_decides c d = same_as _
    (and_decides _ _ (option_decides_itself use_eq use_decides c.public_key_use d.public_key_use) (
    and_decides _ _ (option_decides_itself operations_eq operations_decides c.key_operations d.key_operations) (
    and_decides _ _ (option_decides_itself (sameb the_type) (variant_decides the_type tt) c.key_algorithm d.key_algorithm) (
    and_decides _ _ (option_decides_itself bytes_eq bytes_eq-Decides c.key_id d.key_id) (
    and_decides _ _ (option_decides_itself bytes_eq bytes_eq-Decides c.x509_url d.x509_url) (
    and_decides _ _ (option_decides_itself (pointwise bytes_eq) texts_decides c.x509_chain d.x509_chain) (
    and_decides _ _ (option_decides_itself bytes_eq bytes_eq-Decides c.x509_sha1_fingerprint d.x509_sha1_fingerprint)
    (option_decides_itself bytes_eq bytes_eq-Decides c.x509_sha256_fingerprint d.x509_sha256_fingerprint))))))))
    (λ p i. record {
      public_key_use = p.0 i;
      key_operations = p.1.0 i;
      key_algorithm = p.1.1.0 i;
      key_id = p.1.1.1.0 i;
      x509_url = p.1.1.1.1.0 i;
      x509_chain = p.1.1.1.1.1.0 i;
      x509_sha1_fingerprint = p.1.1.1.1.1.1.0 i;
      x509_sha256_fingerprint = p.1.1.1.1.1.1.1 i;
    })
    (λ e. (
      ap (λ x. x.public_key_use) e,
      (
        ap (λ x. x.key_operations) e,
        (
          ap (λ x. x.key_algorithm) e,
          (
            ap (λ x. x.key_id) e,
            (
              ap (λ x. x.x509_url) e,
              (ap (λ x. x.x509_chain) e, (ap (λ x. x.x509_sha1_fingerprint) e, ap (λ x. x.x509_sha256_fingerprint) e)),
            ),
          ),
        ),
      ),
    ))

pub common_eq_equiv : IsEquivalence common_eq
common_eq_equiv = decided_by common_eq (λ c. c) common_decides

abbrev pub common_fed : CommonParameters → HashWrites
common_fed c = option use_fed c.public_key_use ++ option operations_fed c.key_operations
    ++ option (variant_fed the_type) c.key_algorithm ++ option str c.key_id ++ option str c.x509_url
    ++ option (slice str) c.x509_chain ++ option str c.x509_sha1_fingerprint ++ option str c.x509_sha256_fingerprint

pub common_alike : Alike common_eq common_fed
common_alike = fed_by_mark common_eq (λ c. c) common_decides common_fed common_fed (λ c. refl)
