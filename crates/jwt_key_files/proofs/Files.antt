-- Bytes that are not PEM are the file of a key in DER, or of none.
use Rattle.std.proofs.Common.{◌⊎◌, inl, inr, ⊎_elim, ℕ, List, Result, Ok, Err, IfOk, IfErr}
use Rattle.jwt_base.specs.KindOf.{kind_of, IsMemory}
use Rattle.jwt_base.specs.declared.errors.Error.{Error}
use Rattle.jwt_keys.specs.Key.{Key}
use Rattle.jwt_key_files.specs.Files.{IsFileOf, IsFileRefused, IsPem}
use Rattle.jwt_key_files.specs.Pem.{IsFirst}
use Rattle.jwt_key_files.specs.PublicKeys.{IsPublicKey, IsRefused}

module _ (bytes : List ℕ) (none : (block : List ℕ) → ¬ IsFirst bytes block) where
  not_pem : ¬ IsPem bytes
  not_pem h = none h.0 h.1

  pub of_der : (r : Result Key Error) → IfOk r (IsPublicKey bytes) → IfOk r (IsFileOf bytes)
  of_der (Ok key) h = inr (not_pem, h)
  of_der (Err e) h = tt

  pub refused_der : (r : Result Key Error) → IfErr r (λ e. IsMemory e ⊎ IsRefused bytes (kind_of e))
      → IfErr r (λ e. IsMemory e ⊎ IsFileRefused bytes (kind_of e))
  refused_der (Ok key) h = tt
  refused_der (Err e) h = ⊎_elim (λ m. inl m) (λ f. inr (inr (not_pem, f))) h
