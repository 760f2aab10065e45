use Rattle.std.proofs.Common.{rules}
use Rattle.jwt_c_calls.proofs.Words.{any-words}
use Rattle.jwt_c_calls.proofs.membership.has_word.Goals as goal

pub returns-then-not-is_empty : goal.returns-then-not-is_empty
returns-then-not-is_empty c = let e = any-words c.args.word.now c.args.text.now in search (rules, e)

pub returns-else-not-is_empty : goal.returns-else-not-is_empty
returns-else-not-is_empty c = let e = any-words c.args.word.now c.args.text.now in search (rules, e)
