use Rattle.std.proofs.Common.{inr}
use Rattle.jwt_command.proofs.keys.given_secret.Goals as goal

pub returns-then-branch-clause-err : goal.returns-then-branch-clause-err
returns-then-branch-clause-err c = inr (
  c.secret-secret.result.now,
  c.secret-secret.ensures,
  inr (c.if-file.false, c.in_ok-holds_key.ensures.ok.0 c.if-branch.true),
)
