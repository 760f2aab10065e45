-- The line and the status for arguments and an input.
use Rattle.std.specs.Prelude.{◌≡◌, ◌==◌, ◌-◌, true, false, length, take, slice_index, if◌then◌else◌, MatchOption}
use Rattle.std.specs.Prelude.{ℕ, List, [], ◌∷◌, ◌⊎◌, Some, Ok, Err, codes}
use Rattle.serde_json.specs.Data.{Data}
use Rattle.serde_json.specs.Written.{compact_text, has_float}
use Rattle.serde_json.specs.declared.value.Value.{Value}
use Rattle.jwt_base.specs.Kind.{Kind, text_of}
use Rattle.jwt_base.specs.Kind as kind
use Rattle.jwt_base.specs.Base64Url.{IsPart}
use Rattle.jwt_base.specs.Claims.{IsValue}
use Rattle.jwt_base.specs.declared.algorithms.Algorithm.{Algorithm}
use Rattle.jwt_base.specs.declared.algorithms.AlgorithmFamily.TheVariants.{Hmac}
use Rattle.jwt_params.specs.declared.thumbprints.ThumbprintHash.{ThumbprintHash}
use Rattle.jwt_keys.specs.Jwk.{ReadsKey}
use Rattle.jwt_keys.specs.JwkSet.{ReadsSet}
use Rattle.jwt_keys.specs.Thumbprint.{thumb_text}
use Rattle.jwt_keys.specs.declared.jwk.Jwk.{Jwk}
use Rattle.jwt_keys.specs.Key.{Plain}
use Rattle.jwt_crypto.specs.Hmac.{hash_bytes}
use Rattle.jwt_crypto.specs.HmacKeys.{hash_named}
use Rattle.jwt_header.specs.Header.{header_value, new_header}
use Rattle.jwt_validation.specs.Options.{default_options}
use Rattle.jsonwebtoken.specs.ByHmac.{decoding_by_hmac, encoding_by_hmac}
use Rattle.jsonwebtoken.specs.Order.{Passes, FailsFirst}
use Rattle.jsonwebtoken.specs.Tests.{Call, Contents, header_order, header_call, Given, InSet, decode_order, set_order}
use Rattle.jsonwebtoken.specs.Tests.{token_tests}
use Rattle.jsonwebtoken.specs.Issue.{Issue, Written, IsIssued, encode_order, issue_tests}
use Rattle.jwt_base.specs.JsonText.{IsJson, ReadsText}
use Rattle.jwt_tool_command.specs.Words.{Request, ForHeader, ForThumbprint, ForToken, ForClaims, ForClaimsBySet, request_of}

-- ---- the input

-- the bytes, less one newline at their end
abbrev pub without_final_newline : List ℕ → List ℕ
without_final_newline xs =
    if slice_index xs (length xs - 1) == 10 then take (length xs - 1) xs else xs

-- ---- the line

-- an error's text, and the status that goes with it
abbrev pub IsRefusal : Kind → ℕ → List ℕ → Type 0
IsRefusal k status line = (line ≡ text_of k) × (status ≡ 1)

-- a value's JSON text
abbrev pub IsValueText : Data → ℕ → List ℕ → Type 0
IsValueText value status line = (line ≡ compact_text value) × (status ≡ 0)

-- a value's JSON text; one that holds a float has none
abbrev pub ValueLine : Data → ℕ → List ℕ → Type 0
ValueLine value status line =
    ((has_float value ≡ false) × IsValueText value status line)
    ⊎ ((has_float value ≡ true) × IsRefusal kind.Json status line)

-- the value that the header of the input's token is written as (RFC 7515 section 4)
abbrev pub IsHeaderValue : List ℕ → Data → Type 0
IsHeaderValue input value =
    (t : Contents) × Passes (token_tests (header_call input)) header_order t
    × (header_value t.header ≡ Some value)

-- the token's header, or the kind of its first failed test (RFC 7515 section 4)
abbrev pub HeaderLine : List ℕ → ℕ → List ℕ → Type 0
HeaderLine input status line =
    ((value : Data) × IsHeaderValue input value × IsValueText value status line)
    ⊎ ((k : Kind) × FailsFirst (token_tests (header_call input)) header_order k × IsRefusal k status line)

-- the input is that of a key, and this is the base64url text of the digest of its required members
-- (RFC 7638 section 3)
abbrev pub IsThumbprint : List ℕ → ThumbprintHash → List ℕ → Type 0
IsThumbprint input hash thumbprint = (key : Jwk) × (ReadsText ReadsKey input key
    × ((text : List ℕ) × ((thumb_text key ≡ Ok text)
    × IsPart thumbprint (hash_bytes (hash_named hash) text))))

-- the input is not that of a key (RFC 7517 section 4), or that of one that has no thumbprint for
-- this reason (RFC 7638 section 3.2)
abbrev pub HasThumbprintFault : List ℕ → Kind → Type 0
HasThumbprintFault input k =
    ((k ≡ kind.Json) × ((key : Jwk) → ¬ ReadsText ReadsKey input key))
    ⊎ ((key : Jwk) × (ReadsText ReadsKey input key × (thumb_text key ≡ Err k)))

-- the thumbprint, or the text of the refusal (RFC 7638 section 3)
abbrev pub ThumbprintLine : List ℕ → ThumbprintHash → ℕ → List ℕ → Type 0
ThumbprintLine input hash status line =
    (IsThumbprint input hash line × (status ≡ 0))
    ⊎ ((k : Kind) × HasThumbprintFault input k × IsRefusal k status line)

-- the input's token, checked with HMAC and a secret at a time, with the default options for that
-- one algorithm
abbrev pub hmac_call : List ℕ → Algorithm → List ℕ → ℕ → Call Value
hmac_call input algorithm secret time =
    decoding_by_hmac IsValue input (Given (Plain Hmac secret)) (default_options (algorithm ∷ [])) time

-- the claims of a token that passes every test of decode (RFC 7519 section 7.2)
abbrev pub IsClaimsValue : List ℕ → Algorithm → List ℕ → ℕ → Data → Type 0
IsClaimsValue input algorithm secret time value =
    (t : Contents) × Passes (token_tests (hmac_call input algorithm secret time)) decode_order t
    × (t.payload_value ≡ value)

-- the token's claims, or the kind of its first failed test (RFC 7519 section 7.2)
abbrev pub ClaimsLine : List ℕ → Algorithm → List ℕ → ℕ → ℕ → List ℕ → Type 0
ClaimsLine input algorithm secret time status line =
    ((value : Data) × IsClaimsValue input algorithm secret time value × ValueLine value status line)
    ⊎ ((k : Kind) × FailsFirst (token_tests (hmac_call input algorithm secret time)) decode_order k
    × IsRefusal k status line)

-- the input's token, checked with HMAC and the key of the set that its header names, under the same
-- options
abbrev pub hmac_set_call : List ℕ → Algorithm → List Jwk → ℕ → Call Value
hmac_set_call input algorithm keys time =
    decoding_by_hmac IsValue input (InSet keys) (default_options (algorithm ∷ [])) time

-- the text is that of a set by which the token passes every test, and these are its claims
-- (RFC 7517 section 5, RFC 7519 section 7.2)
abbrev pub IsClaimsValueBySet : List ℕ → Algorithm → List ℕ → ℕ → Data → Type 0
IsClaimsValueBySet input algorithm set time value = (keys : List Jwk) × ReadsText ReadsSet set keys
    × ((t : Contents) × Passes (token_tests (hmac_set_call input algorithm keys time)) set_order t
    × (t.payload_value ≡ value))

-- the text is not that of a set (RFC 7517 section 5), or the first failed test has this kind
abbrev pub HasSetFault : List ℕ → Algorithm → List ℕ → ℕ → Kind → Type 0
HasSetFault input algorithm set time k =
    ((k ≡ kind.Json) × ((keys : List Jwk) → ¬ ReadsText ReadsSet set keys))
    ⊎ ((keys : List Jwk) × ReadsText ReadsSet set keys
    × FailsFirst (token_tests (hmac_set_call input algorithm keys time)) set_order k)

-- the token's claims by a set, or the text of the refusal (RFC 7517 section 5, RFC 7519 section
-- 7.2)
abbrev pub SetClaimsLine : List ℕ → Algorithm → List ℕ → ℕ → ℕ → List ℕ → Type 0
SetClaimsLine input algorithm set time status line =
    ((value : Data) × IsClaimsValueBySet input algorithm set time value
    × ValueLine value status line)
    ⊎ ((k : Kind) × HasSetFault input algorithm set time k × IsRefusal k status line)

-- the token of claims, under the header of the algorithm with the type `JWT` (RFC 7519 section 5.1)
abbrev pub hmac_issue : Algorithm → List ℕ → Data → Issue
hmac_issue algorithm secret claims =
    encoding_by_hmac (new_header algorithm) (Some claims) (record { family = Hmac; bytes = secret })

-- the token of the claims that the input is the JSON text of (RFC 7519 section 7.1)
abbrev pub IsToken : List ℕ → Algorithm → List ℕ → List ℕ → Type 0
IsToken input algorithm secret token = (claims : Data) × IsJson input claims
    × ((t : Written) × Passes (issue_tests (hmac_issue algorithm secret claims)) encode_order t
    × IsIssued (hmac_issue algorithm secret claims) t token)

-- the input is not JSON text, or the first failed test of encode has this kind
abbrev pub HasTokenFault : List ℕ → Algorithm → List ℕ → Kind → Type 0
HasTokenFault input algorithm secret k =
    ((k ≡ kind.Json) × ((claims : Data) → ¬ IsJson input claims))
    ⊎ ((claims : Data) × IsJson input claims
    × FailsFirst (issue_tests (hmac_issue algorithm secret claims)) encode_order k)

-- the token, or the text of the refusal (RFC 7519 section 7.1)
abbrev pub TokenLine : List ℕ → Algorithm → List ℕ → ℕ → List ℕ → Type 0
TokenLine input algorithm secret status line =
    (IsToken input algorithm secret line × (status ≡ 0))
    ⊎ ((k : Kind) × HasTokenFault input algorithm secret k × IsRefusal k status line)

-- the line and the status for a request
abbrev pub RequestLine : Request → List ℕ → ℕ → List ℕ → Type 0
RequestLine ForHeader input status line = HeaderLine input status line
RequestLine (ForThumbprint hash) input status line = ThumbprintLine input hash status line
RequestLine (ForToken algorithm secret) input status line =
    TokenLine input algorithm secret status line
RequestLine (ForClaims algorithm secret time) input status line =
    ClaimsLine input algorithm secret time status line
RequestLine (ForClaimsBySet algorithm set time) input status line =
    SetClaimsLine input algorithm set time status line

-- the line and the status for arguments that ask for nothing
abbrev pub IsUsage : ℕ → List ℕ → Type 0
IsUsage status line = (line ≡ codes "usage") × (status ≡ 2)

-- the line and the status for any arguments
abbrev pub Line : List (List ℕ) → List ℕ → ℕ → List ℕ → Type 0
Line words input status line =
    MatchOption (request_of words) (IsUsage status line) (λ r. RequestLine r input status line)

-- the line and the status if memory ran out
abbrev pub IsMemoryLine : ℕ → List ℕ → Type 0
IsMemoryLine status line = (line ≡ codes "Out of memory") × (status ≡ 1)

-- that line, or the one for out of memory
abbrev pub Answers : List (List ℕ) → List ℕ → ℕ → List ℕ → Type 0
Answers words input status line = Line words input status line ⊎ IsMemoryLine status line

-- the status of the answer to some arguments and some input
abbrev pub HasAnswered : (status : ℕ) → Type 0
HasAnswered status = (words : List (List ℕ)) × (input line : List ℕ) × Answers words input status line

-- the exit status of the program: that of an answer, or 3 if there is none
abbrev pub IsExitStatus : (status : ℕ) → Type 0
IsExitStatus status = HasAnswered status ⊎ (status ≡ 3)

-- for private clauses: the line for a request, or the one for out of memory
abbrev pub RequestAnswer : Request → List ℕ → ℕ → List ℕ → Type 0
RequestAnswer request input status line =
    RequestLine request input status line ⊎ IsMemoryLine status line

-- for private clauses: the line of such a value, or a refusal of such a kind, or the line for out
-- of memory
abbrev pub ValueAnswer : (Data → ℕ → List ℕ → Type 0) → (Data → Type 0) → (Kind → Type 0)
    → ℕ → List ℕ → Type 0
ValueAnswer L P K status line =
    (((value : Data) × P value × L value status line)
    ⊎ ((k : Kind) × K k × IsRefusal k status line))
    ⊎ IsMemoryLine status line
