-- The answer of `sign`, if `encode` refuses.
use Rattle.std.proofs.Common.{◌≡◌, ◌≢◌, ◌⊎◌, ℕ, List, [], Some, subst, inl, inr}
use Rattle.serde_json.specs.Data.{Data}
use Rattle.jwt_base.specs.Kind.{Kind}
use Rattle.jwt_base.specs.Kind as kind
use Rattle.jwt_base.specs.KindOf.{kind_of, IsMemory}
use Rattle.jwt_base.specs.declared.algorithms.AlgorithmFamily.TheVariants.{Hmac}
use Rattle.jwt_base.specs.declared.errors.Error.{Error}
use Rattle.jwt_header.specs.declared.header.Header.{Header}
use Rattle.jwt_keys.specs.Key.{SecretKey}
use Rattle.jsonwebtoken.specs.ByHmac.{encoding_by_hmac}
use Rattle.jsonwebtoken.specs.Issue.{encode_order, issue_tests}
use Rattle.jsonwebtoken.specs.Order.{FailsFirst}
use Rattle.jwt_command.specs.Answers.{IsSignAnswer}

abbrev secret_key : List ℕ → SecretKey
secret_key secret = record { family = Hmac; bytes = secret }

pub not_signed : (header : Header) (claims : Data) (secret : List ℕ) (key : SecretKey) (e : Error) (status : ℕ)
    (output : List ℕ) → key ≡ secret_key secret
    → IsMemory e ⊎ FailsFirst (issue_tests (encoding_by_hmac header (Some claims) key)) encode_order (kind_of e)
    → kind_of e ≢ kind.OutOfMemory
    → status ≡ 1 → output ≡ [] → IsSignAnswer header claims secret status output
not_signed header claims secret key e status output is_key (inl memory) other is_status is_output = absurd (other memory)
not_signed header claims secret key e status output is_key (inr failed) other is_status is_output =
    inr (
      kind_of e,
      subst (λ k. FailsFirst (issue_tests (encoding_by_hmac header (Some claims) k)) encode_order
          (kind_of e)) is_key failed,
      is_status,
      is_output,
    )
