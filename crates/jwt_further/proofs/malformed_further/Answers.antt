use Rattle.std.proofs.Common.{rules}
use Rattle.jwt_further.proofs.Readable.{rules_read}
use Rattle.jwt_further.proofs.malformed_further.Goals as goal

pub returns-clause-read : goal.returns-clause-read
returns-clause-read c = rules_read _ (search rules) (search rules) (search rules) (search rules)
