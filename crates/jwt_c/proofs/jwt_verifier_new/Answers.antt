use Rattle.jwt_c_calls.specs.Contents.{keys_in}
use Rattle.jwt_c_calls.specs.Verifiers.{limits_of}
use Rattle.jwt_c_calls.proofs.Decided.{made_of}
use Rattle.jwt_c.proofs.jwt_verifier_new.Goals as goal

pub returns-clause-made : goal.returns-clause-made
returns-clause-made c = made_of (keys_in c.args.keys.now.held) c.args.options.now (limits_of c.args.max_len c.args.max_prepared)
    c.verifier_from-made.result c.args.verifier.now.held c.write_handle.new.verifier.held c.write_handle.result
    c.verifier_from-made.ensures.ok c.verifier_from-made.ensures.err c.write_handle.ensures
