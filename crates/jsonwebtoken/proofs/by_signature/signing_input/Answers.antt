use Rattle.std.proofs.Common.{refl}
use Rattle.jsonwebtoken.specs.IssueGiven.{signing, signing_order}
use Rattle.jsonwebtoken.proofs.Issued.{issue_decides}
use Rattle.jsonwebtoken.proofs.by_signature.signing_input.Goals as goal

pub returns : goal.returns
returns g c =
    issue_decides (signing c.args.header.now (g.T.Claims.written c.args.claims.now)) signing_order refl _
    c.signing_input_by_steps.result c.signing_input_by_steps.ensures refl
