-- The engine of a token's parts, against the relation.
use Rattle.std.proofs.Common.{◌≡◌, ℕ, List, Some, refl, sym, ap, ◌∙◌, inl, inr}
use Rattle.std.proofs.lemmas.List.{append-nil}
use Rattle.std.specs.declared.result.Result.TheVariants.{Ok, Err}
use Rattle.base64.specs.declared.decode.DecodeError.{DecodeError}
use Rattle.base64.proofs.EngineFacts.{decode_of-encode_of}
use Rattle.base64.specs.Engines.{url_safe_no_pad}
use Rattle.base64.specs.GeneralPurpose.{IsStrict, IsBytes, encode_of, decode_of, IsDecodeFailure}
use Rattle.base64.specs.Rfc4648.{encode_symbols}
use Rattle.serde_json.specs.Data.{Data}
use Rattle.jwt_base.specs.Base64Url.{IsPart, url_characters}
use Rattle.jwt_base.specs.JsonText.{IsJson}
use Rattle.base64.specs.declared.decode.DecodeAllocError.{DecodeAllocError}
use Rattle.base64.specs.declared.decode.DecodeAllocError.TheVariants as fault
use Rattle.jwt_base.specs.Kind as kind
use Rattle.jwt_base.specs.KindOf.{kind_of, RefusesAs}
use Rattle.jwt_base.specs.Faults.{base64_kind}
use Rattle.jwt_base.specs.declared.errors.Error.{Error}

pub strict : IsStrict url_safe_no_pad
strict = (refl, refl)

pub encode_of-url : (b : List ℕ) → encode_of url_safe_no_pad b ≡ encode_symbols url_characters b
encode_of-url b = append-nil (encode_symbols url_characters b)

-- a text that the engine refuses is not a part
pub no_part : (text b : List ℕ) (d : DecodeError) → decode_of url_safe_no_pad text ≡ Err d
    → (IsBytes b → text ≡ encode_of url_safe_no_pad b → decode_of url_safe_no_pad text ≡ Ok b) → IsPart text b → ⊥
no_part text b d failed reads part =
    let ok = reads part.0 (part.1 ∙ sym (encode_of-url b)) in
    let both : Err d ≡ Ok b = sym failed ∙ ok in cc

-- a part stands for one list of bytes
pub one_part : (t a b : List ℕ) → IsPart t a → IsPart t b → a ≡ b
one_part t a b pa pb =
    let ea : t ≡ encode_of url_safe_no_pad a = pa.1 ∙ sym (encode_of-url a) in
    let eb : t ≡ encode_of url_safe_no_pad b = pb.1 ∙ sym (encode_of-url b) in
    let da = decode_of-encode_of url_safe_no_pad a refl pa.0 in
    let db = decode_of-encode_of url_safe_no_pad b refl pb.0 in
    let same : Ok a ≡ Ok b = sym da ∙ ap (decode_of url_safe_no_pad) (sym ea ∙ eb) ∙ db in cc

-- bytes have one JSON value
pub one_json : (b : List ℕ) (d e : Data) → IsJson b d → IsJson b e → d ≡ e
one_json b d e jd je = let same : Some d ≡ Some e = sym jd.1 ∙ je.1 in cc

-- the engine's fault is `Base64` if the text is not a part
pub part_refused : (text : List ℕ) (fault : DecodeAllocError) (e : Error) → kind_of e ≡ base64_kind fault
    → IsDecodeFailure url_safe_no_pad text fault
    → ((b : List ℕ) → IsBytes b → text ≡ encode_of url_safe_no_pad b → decode_of url_safe_no_pad text ≡ Ok b)
    → RefusesAs kind.Base64 ((b : List ℕ) → IsPart text b → ⊥) e
part_refused text fault.OutOfMemory e is failed reads = inl is
part_refused text (fault.DecodeError d) e is failed reads = inr (is, λ b. no_part text b d failed (reads b))
