-- Keys of bytes, by the value or the file that the bytes are.
use Rattle.std.proofs.Common.{◌≡◌, ◌⊎◌, ⊎_elim, inl, inr, refl, ℕ, List, Result, Ok, Err, IfOk, IfErr}
use Rattle.serde_json.specs.Data.{Data}
use Rattle.jwt_base.specs.JsonText.{IsJson}
use Rattle.jwt_base.specs.Kind as kind
use Rattle.jwt_base.specs.KindOf.{IsMemory, RefusesAs}
use Rattle.jwt_base.specs.declared.errors.Error.{Error}
use Rattle.jwt_keys.specs.Jwk.{ReadsKey}
use Rattle.jwt_keys.specs.declared.jwk.Jwk.{Jwk}
use Rattle.jwt_key_files.specs.Files.{IsJwkOfFile}
use Rattle.jwt_c_calls.specs.KeyLists.{KeyList, keys_of}
use Rattle.jwt_c_calls.specs.KeySources.{AreKeysOf, AreRefused, AreNoneOfValue, AreOfValue, IsAlone, IsJsonText, IsKeyOfValue}
use Rattle.jwt_c_calls.specs.KeySources.{IsNoFile, IsNotRead, IsOneOf, IsSkippedAs}
use Rattle.jwt_c_calls.specs.declared.held_keys.HeldKeys.{HeldKeys}
use Rattle.jwt_c_calls.specs.declared.key_sources.Source.TheVariants.{Text}

-- ---- one key that was read

module _ (Is : Jwk → Type 0) (IsNone : ℕ → Type 0) (jwk : Jwk) (is : Is jwk) where
  pub one_of : (r : Result HeldKeys ℕ) → IfOk r (λ k. IsAlone jwk (keys_of k)) → IfOk r (λ k. IsOneOf Is (keys_of k))
  one_of (Ok k) h = (jwk, is, h)
  one_of (Err s) h = tt

  pub not_read : (r : Result HeldKeys ℕ) → IfErr r (λ s. (s ≡ 22) ⊎ IsSkippedAs jwk s) → IfErr r (IsNotRead Is IsNone)
  not_read (Ok k) h = tt
  not_read (Err s) h = ⊎_elim (λ m. inl m) (λ skipped. inr (inr (jwk, is, skipped))) h

-- ---- a text

module _ (bytes : List ℕ) where
  module _ (d : Data) (json : IsJson bytes d) where
    of_value : (keys : KeyList) → AreOfValue d keys → AreKeysOf Text bytes keys
    of_value keys (inl set) = inl (set.0, (d, (json, set.1)))
    of_value keys (inr one) = inr (one.0, inl (d, json, one.1.0, one.1.1), one.2)

    none_of_value : (s : ℕ) → IsNotRead (IsKeyOfValue d) (AreNoneOfValue d) s → AreRefused Text bytes s
    none_of_value s (inl m) = inl m
    none_of_value s (inr (inl none)) = inr (inl (inl (d, json, none.0, none.1.0, none.1.1)))
    none_of_value s (inr (inr one)) = inr (inr (one.0, inl (d, json, one.1.0, one.1.1), one.2))

    pub json_text : (r : Result HeldKeys ℕ) → IfOk r (λ k. AreOfValue d (keys_of k)) → IfOk r (λ k. AreKeysOf Text bytes (keys_of k))
    json_text (Ok k) h = of_value (keys_of k) h
    json_text (Err s) h = tt

    pub json_refused : (r : Result HeldKeys ℕ) → IfErr r (IsNotRead (IsKeyOfValue d) (AreNoneOfValue d))
        → IfErr r (AreRefused Text bytes)
    json_refused (Ok k) h = tt
    json_refused (Err s) h = none_of_value s h

  pub not_json : (e : Error) → ¬ IsMemory e → RefusesAs kind.Json ((d : Data) → ¬ IsJson bytes d) e → ¬ IsJsonText bytes
  not_json e lasting (inl m) h = lasting m
  not_json e lasting (inr none) h = none.1 h.0 h.1

  module _ (not_json : ¬ IsJsonText bytes) where
    none_of_file : (s : ℕ) → IsNotRead (IsJwkOfFile bytes) (IsNoFile bytes) s → AreRefused Text bytes s
    none_of_file s (inl m) = inl m
    none_of_file s (inr (inl (inl certificate))) = inr (inl (inr (inl (not_json, certificate.0, certificate.1))))
    none_of_file s (inr (inl (inr none))) = inr (inl (inr (inr (not_json, none.0, none.1))))
    none_of_file s (inr (inr one)) = inr (inr (one.0, inr (not_json, one.1), one.2))

    pub file_text : (r : Result HeldKeys ℕ) → IfOk r (λ k. IsOneOf (IsJwkOfFile bytes) (keys_of k))
        → IfOk r (λ k. AreKeysOf Text bytes (keys_of k))
    file_text (Ok k) h = inr (h.0, inr (not_json, h.1), h.2)
    file_text (Err s) h = tt

    pub file_refused : (r : Result HeldKeys ℕ) → IfErr r (IsNotRead (IsJwkOfFile bytes) (IsNoFile bytes))
        → IfErr r (AreRefused Text bytes)
    file_refused (Ok k) h = tt
    file_refused (Err s) h = none_of_file s h
