use Rattle.std.proofs.Common.{◌≡◌, ◌++◌, replicate}
use Rattle.jwt_secrets.proofs.base64_texts.fill.Given as goal

abbrev pub invariant-loop : goal.invariant-loop
invariant-loop l = l.groups.items ≡ l.digits ++ replicate l.counter 0x41
