use Rattle.std.proofs.Common.{◌∙◌, codes, false}
use Rattle.std.specs.Str.{bytes_eq}
use Rattle.std.specs.HashSet.{contains_text}
use Rattle.std.proofs.lemmas.Map.Text.{hash_set_updates_text}
use Rattle.jwt_command.proofs.Required.{left_out}
use Rattle.jwt_command.proofs.verify.options.skip_exp.Goals as goal

pub returns-then-skips_exp : goal.returns-then-skips_exp
returns-then-skips_exp c = λ t.
    rw c.if-skips_exp.true
    (hash_set_updates_text (codes "exp") c.args.claims.now c.remove.new.self false c.remove.ensures.updates t
    ∙ left_out (bytes_eq (codes "exp") t) (contains_text c.args.claims.now t))
