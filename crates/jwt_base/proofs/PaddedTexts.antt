-- The engines of the padded texts, against the relations.
use Rattle.std.proofs.Common.{◌≡◌, ℕ, List, refl, sym, ◌∙◌, inl, inr}
use Rattle.std.specs.declared.result.Result.TheVariants.{Ok, Err}
use Rattle.base64.specs.Engines.{standard, url_safe}
use Rattle.base64.specs.GeneralPurpose.{IsStrict, IsBytes, encode_of, decode_of, IsDecodeFailure}
use Rattle.base64.specs.declared.engine.general_purpose.GeneralPurpose.{GeneralPurpose}
use Rattle.base64.specs.declared.decode.DecodeError.{DecodeError}
use Rattle.base64.specs.declared.decode.DecodeAllocError.{DecodeAllocError}
use Rattle.base64.specs.declared.decode.DecodeAllocError.TheVariants as fault
use Rattle.jwt_base.specs.Kind as kind
use Rattle.jwt_base.specs.KindOf.{kind_of, RefusesAs}
use Rattle.jwt_base.specs.Faults.{base64_kind}
use Rattle.jwt_base.specs.declared.errors.Error.{Error}

pub standard_strict : IsStrict standard
standard_strict = (refl, refl)

pub url_strict : IsStrict url_safe
url_strict = (refl, refl)

-- a text that an engine refuses is not the text of any bytes
no_text : (engine : GeneralPurpose) (text b : List ℕ) (d : DecodeError) → decode_of engine text ≡ Err d
    → decode_of engine text ≡ Ok b → ⊥
no_text engine text b d failed ok = let both : Err d ≡ Ok b = sym failed ∙ ok in cc

-- an engine's fault is `Base64` if the text is not the text of any bytes
pub text_refused : (engine : GeneralPurpose) (text : List ℕ) (failure : DecodeAllocError) (e : Error)
    → kind_of e ≡ base64_kind failure → IsDecodeFailure engine text failure
    → ((b : List ℕ) → IsBytes b → text ≡ encode_of engine b → decode_of engine text ≡ Ok b)
    → RefusesAs kind.Base64 ((b : List ℕ) → IsBytes b × (text ≡ encode_of engine b) → ⊥) e
text_refused engine text fault.OutOfMemory e is failed reads = inl is
text_refused engine text (fault.DecodeError d) e is failed reads =
    inr (is, λ b h. no_text engine text b d failed (reads b h.0 h.1))
