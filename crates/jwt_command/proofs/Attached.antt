-- The answers of `sign` for a signature that another program makes.
use Rattle.std.proofs.Common.{◌≡◌, ◌≢◌, ◌⊎◌, ◌∙◌, ℕ, List, [], ◌∷◌, ◌++◌, Option, Some, ap, subst, sym, inl, inr}
use Rattle.serde_json.specs.Data.{Data}
use Rattle.jwt_base.specs.Kind as kind
use Rattle.jwt_base.specs.KindOf.{kind_of, IsMemory}
use Rattle.jwt_base.specs.declared.algorithms.Algorithm.{Algorithm}
use Rattle.jwt_base.specs.declared.errors.Error.{Error}
use Rattle.jwt_crypto.specs.GivenSignature.{GivenSignature}
use Rattle.jwt_header.specs.declared.header.Header.{Header}
use Rattle.jwt_validation.specs.Options.{Options}
use Rattle.jsonwebtoken.specs.Issue.{encode_order, issue_tests}
use Rattle.jsonwebtoken.specs.IssueGiven.{encoding_by_signature, signing, signing_order}
use Rattle.jsonwebtoken.specs.Order.{FailsFirst, Passes}
use Rattle.jsonwebtoken.specs.Tests.{Contents, dot, insecure_call, insecure_order, token_tests}
use Rattle.jsonwebtoken.specs.declared.decoding.TokenData.{TokenData}
use Rattle.serde_json.specs.View.{view}
use Rattle.serde_json.specs.declared.value.Value.{Value}
use Rattle.jwt_base.specs.Algorithm.{family_of}
use Rattle.jwt_base.specs.Claims.{IsValue}
use Rattle.jwt_base.specs.Kind.{Kind}
use Rattle.jwt_base.specs.declared.algorithms.AlgorithmFamily.TheVariants.{Hmac}
use Rattle.jwt_verifier.specs.declared.keys.Keys.{Keys}
use Rattle.jwt_command.specs.BySignature.{IsDataAnswer, IsInputAnswer, IsNotTokenOf, IsSignatureIn, IsUnsigned}
use Rattle.jwt_command.specs.BySignature.{given, signature_options}
use Rattle.jwt_command.specs.Commands.{ChoosesAlgorithm}

pub no_input : (header : Header) (claims : Data) (e : Error) (status : ℕ) (output : List ℕ)
    → IsMemory e ⊎ FailsFirst (issue_tests (signing header (Some claims))) signing_order (kind_of e)
    → kind_of e ≢ kind.OutOfMemory → status ≡ 1 → output ≡ [] → IsInputAnswer header claims status output
no_input header claims e status output (inl memory) other is_status is_output = absurd (other memory)
no_input header claims e status output (inr failed) other is_status is_output = inr (kind_of e, failed, is_status, is_output)

pub no_token : (keys : Option Keys) (header : Header) (claims : Data) (input file : List ℕ) (e : Error) (status : ℕ)
    (output : List ℕ) → IsMemory e ⊎ IsNotTokenOf header claims input file (kind_of e)
    → kind_of e ≢ kind.OutOfMemory → status ≡ 1 → output ≡ [] → IsDataAnswer keys header claims input file status output
no_token keys header claims input file e status output (inl memory) other is_status is_output = absurd (other memory)
no_token keys header claims input file e status output (inr failed) other is_status is_output =
    inr (kind_of e, failed, is_status, is_output)

-- why no token is issued of the signature in the file
pub not_issued : (header : Header) (claims : Data) (input file signature : List ℕ) (g : GivenSignature) (k : Kind)
    → g ≡ given header input signature → IsSignatureIn header.alg file signature
    → FailsFirst (issue_tests (encoding_by_signature g header (Some claims))) encode_order k
    → IsNotTokenOf header claims input file k
not_issued header claims input file signature g k is_given stands failed = inr (
  signature,
  stands,
  subst (λ g. FailsFirst (issue_tests (encoding_by_signature g header (Some claims))) encode_order k) is_given failed,
)

-- header and claims that are read of the signing input and a dot
pub unsigned_is : (input text : List ℕ) (contents d : TokenData Value) → text ≡ input ++ dot ∷ []
    → ((t : Contents) × Passes (token_tests (insecure_call text IsValue)) insecure_order t
    × ((t.header ≡ contents.header) × (view contents.claims ≡ t.payload_value)))
    → d ≡ contents → family_of contents.header.alg ≢ Hmac → IsUnsigned input d.header (view d.claims)
unsigned_is input text contents d is_text read same other =
    subst (λ (d : TokenData Value). IsUnsigned input d.header (view d.claims)) (sym same) (
      (
        read.0,
        subst (λ x. Passes (token_tests (insecure_call x IsValue)) insecure_order read.0) is_text read.1,
        read.2.0,
        read.2.1,
      ),
      other,
    )

-- options that list an algorithm are settled
pub settled_is : (keys : Keys) (token : List ℕ) (a : Algorithm) (options settled : Options)
    → options ≡ signature_options a → ChoosesAlgorithm keys token options settled → settled ≡ signature_options a
settled_is keys token a options settled is (inl some) = some.1 ∙ is
settled_is keys token a options settled is (inr none) =
    let bad : a ∷ [] ≡ [] = sym (ap (λ (o : Options). o.algorithms) is) ∙ none.0 in cc
