-- Whether header and claims of a token can be read.
use Rattle.std.proofs.Common.{◌≡◌, ◌≢◌, ◌⊎◌, ℕ, List, inl, inr}
use Rattle.jwt_base.specs.Claims.{IsValue}
use Rattle.jwt_base.specs.Kind as kind
use Rattle.jwt_base.specs.KindOf.{kind_of, IsMemory}
use Rattle.jwt_base.specs.declared.errors.Error.{Error}
use Rattle.jsonwebtoken.specs.Order.{FailsFirst}
use Rattle.jsonwebtoken.specs.Tests.{insecure_call, insecure_order, token_tests}
use Rattle.jwt_command.specs.Commands.{IsReadable}

pub not_shown : (token : List ℕ) (e : Error) (status : ℕ)
    → IsMemory e ⊎ FailsFirst (token_tests (insecure_call token IsValue)) insecure_order (kind_of e)
    → kind_of e ≢ kind.OutOfMemory → status ≡ 1 → IsReadable token status
not_shown token e status (inl memory) other is_status = absurd (other memory)
not_shown token e status (inr failed) other is_status = inr (kind_of e, failed, is_status)
