-- The contract of `decode` for its key and its validation, in the terms of the request.
use Rattle.std.proofs.Common.{◌≡◌, ℕ, List, [], ◌∷◌, Some, sym, subst, inr}
use Rattle.serde_json.specs.View.{view}
use Rattle.serde_json.specs.declared.value.Value.{Value}
use Rattle.jwt_base.specs.Claims.{IsValue}
use Rattle.jwt_base.specs.Kind.{Kind}
use Rattle.jwt_base.specs.declared.algorithms.Algorithm.{Algorithm}
use Rattle.jwt_base.specs.declared.algorithms.AlgorithmFamily.TheVariants.{Hmac}
use Rattle.jwt_keys.specs.declared.jwk.Jwk.{Jwk}
use Rattle.jwt_keys.specs.Key.{Key, Plain, SecretKey}
use Rattle.jwt_header.specs.declared.header.Header.{Header}
use Rattle.jwt_validation.specs.Options.{Options, default_options}
use Rattle.jsonwebtoken.specs.ByHmac.{decoding_by_hmac, encoding_by_hmac}
use Rattle.jsonwebtoken.specs.Order.{Passes, FailsFirst}
use Rattle.jsonwebtoken.specs.Tests.{Call, Contents, Given, InSet, decode_order, set_order, token_tests}
use Rattle.jsonwebtoken.specs.Issue.{Issue, Written, IsIssued, encode_order, issue_tests}
use Rattle.jwt_base.specs.JsonText.{IsJson, ReadsText}
use Rattle.jwt_keys.specs.JwkSet.{ReadsSet}
use Rattle.jwt_header.specs.Header.{new_header}
use Rattle.serde_json.specs.Data.{Data}
use Rattle.jwt_tool_command.specs.Line.{IsClaimsValue, IsToken, HasTokenFault, hmac_call, IsClaimsValueBySet, HasSetFault}

abbrev given_call : List ℕ → Key → Options → ℕ → Call Value
given_call input key options time = decoding_by_hmac IsValue input (Given key) options time

pub claims_passed : (input : List ℕ) (algorithm : Algorithm) (secret : List ℕ) (time : ℕ) (key : Key) (options : Options)
    (header : Header) (claims : Value)
    → key ≡ Plain Hmac secret → options ≡ default_options (algorithm ∷ [])
    → (t : Contents) × Passes (token_tests (given_call input key options time)) decode_order t
    × ((t.header ≡ header) × (view claims ≡ t.payload_value))
    → IsClaimsValue input algorithm secret time (view claims)
claims_passed input algorithm secret time key options header claims is_key is_options found = (
  found.0,
  subst (λ o. Passes (token_tests (given_call input (Plain Hmac secret) o time)) decode_order found.0) is_options
      (subst (λ k. Passes (token_tests (given_call input k options time)) decode_order found.0) is_key found.1),
  sym found.2.1,
)

pub claims_failed : (input : List ℕ) (algorithm : Algorithm) (secret : List ℕ) (time : ℕ) (key : Key) (options : Options)
    (k : Kind)
    → key ≡ Plain Hmac secret → options ≡ default_options (algorithm ∷ [])
    → FailsFirst (token_tests (given_call input key options time)) decode_order k
    → FailsFirst (token_tests (hmac_call input algorithm secret time)) decode_order k
claims_failed input algorithm secret time key options k is_key is_options failed =
    subst (λ o. FailsFirst (token_tests (given_call input (Plain Hmac secret) o time)) decode_order k) is_options
    (subst (λ q. FailsFirst (token_tests (given_call input q options time)) decode_order k) is_key failed)

abbrev given_set_call : List ℕ → List Jwk → Options → ℕ → Call Value
given_set_call input keys options time = decoding_by_hmac IsValue input (InSet keys) options time

pub set_claims_passed : (input : List ℕ) (algorithm : Algorithm) (set : List ℕ) (time : ℕ) (keys : List Jwk)
    (options : Options) (header : Header) (claims : Value)
    → ReadsText ReadsSet set keys → options ≡ default_options (algorithm ∷ [])
    → (t : Contents) × Passes (token_tests (given_set_call input keys options time)) set_order t
    × ((t.header ≡ header) × (view claims ≡ t.payload_value))
    → IsClaimsValueBySet input algorithm set time (view claims)
set_claims_passed input algorithm set time keys options header claims text is_options found = (
  keys,
  text,
  (
    found.0,
    subst (λ o. Passes (token_tests (given_set_call input keys o time)) set_order found.0)
        is_options found.1,
    sym found.2.1,
  ),
)

pub set_claims_failed : (input : List ℕ) (algorithm : Algorithm) (set : List ℕ) (time : ℕ) (keys : List Jwk)
    (options : Options) (k : Kind)
    → ReadsText ReadsSet set keys → options ≡ default_options (algorithm ∷ [])
    → FailsFirst (token_tests (given_set_call input keys options time)) set_order k → HasSetFault input algorithm set time k
set_claims_failed input algorithm set time keys options k text is_options failed =
    inr (keys, text, subst (λ o. FailsFirst (token_tests (given_set_call input keys o time)) set_order k) is_options failed)

abbrev given_issue : Header → SecretKey → Data → Issue
given_issue header key claims = encoding_by_hmac header (Some claims) key

abbrev pub secret_key : List ℕ → SecretKey
secret_key secret = record { family = Hmac; bytes = secret }

pub token_issued : (input : List ℕ) (algorithm : Algorithm) (secret token : List ℕ) (header : Header) (key : SecretKey)
    (claims : Data)
    → header ≡ new_header algorithm → key ≡ secret_key secret → IsJson input claims
    → (t : Written) × Passes (issue_tests (given_issue header key claims)) encode_order t
    × IsIssued (given_issue header key claims) t token
    → IsToken input algorithm secret token
token_issued input algorithm secret token header key claims is_header is_key read found = (
  claims,
  read,
  subst (λ k. (t : Written) × Passes (issue_tests (given_issue (new_header algorithm) k claims)) encode_order t
      × IsIssued (given_issue (new_header algorithm) k claims) t token) is_key
      (subst (λ h. (t : Written) × Passes (issue_tests (given_issue h key claims)) encode_order t
      × IsIssued (given_issue h key claims) t token) is_header found),
)

pub token_failed : (input : List ℕ) (algorithm : Algorithm) (secret : List ℕ) (header : Header) (key : SecretKey)
    (claims : Data) (k : Kind)
    → header ≡ new_header algorithm → key ≡ secret_key secret → IsJson input claims
    → FailsFirst (issue_tests (given_issue header key claims)) encode_order k → HasTokenFault input algorithm secret k
token_failed input algorithm secret header key claims k is_header is_key read failed =
    inr (
      claims,
      read,
      subst (λ q. FailsFirst (issue_tests (given_issue (new_header algorithm) q claims)) encode_order k) is_key
          (subst (λ h. FailsFirst (issue_tests (given_issue h key claims)) encode_order k) is_header failed),
    )
