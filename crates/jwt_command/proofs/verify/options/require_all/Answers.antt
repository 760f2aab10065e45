use Rattle.std.proofs.Common.{rules}
use Rattle.jwt_command.proofs.Required.{one_more}
use Rattle.jwt_command.proofs.verify.options.require_all.Goals as goal

pub loop-name-preserved : goal.loop-name-preserved
loop-name-preserved c = λ t. one_more c.args.names.now c.loop-name.name-index _ t _ _ _ (search rules)
    (c.in_ok-require.ensures t) (c.loop-name.invariant t)
