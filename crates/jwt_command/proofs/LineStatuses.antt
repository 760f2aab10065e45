-- Lines of tokens, one after the other.
use Rattle.std.proofs.Common.{◌≡◌, ◌∙◌, ℕ, max, ◌∷◌, ap}
use Rattle.jwt_validation.specs.Options.{Options}
use Rattle.jwt_command.specs.Commands.{IsLineStatus, IsLinesStatus}
use Rattle.jwt_command.specs.declared.keys.LoadedKeys.{LoadedKeys}
use Rattle.jwt_requests.specs.declared.request.VerifyArgs.{VerifyArgs}

-- one more line
pub one_more_line : (v : VerifyArgs) (loaded : LoadedKeys) (options : Options) (status line after : ℕ)
    → IsLinesStatus v loaded options status
    → IsLineStatus v loaded options line → after ≡ max line status → IsLinesStatus v loaded options after
one_more_line v loaded options status line after (statuses, each, is) of_line greater =
    (line ∷ statuses, (of_line, each), greater ∙ ap (max line) is)
