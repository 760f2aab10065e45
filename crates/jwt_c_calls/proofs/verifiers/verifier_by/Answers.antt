use Rattle.jwt_c_calls.specs.KeyLists.{keys_of}
use Rattle.jwt_c_calls.proofs.Made.{lone_made, lone_unmade, set_made, set_unmade}
use Rattle.jwt_c_calls.proofs.verifiers.verifier_by.Goals as goal

pub returns-in-Some-clause-ok : goal.returns-in-Some-clause-ok
returns-in-Some-clause-ok c = lone_made (keys_of c.args.keys.now) c.args.validation c.args.limits c.in-Some.jwk.now c.in-Some.ensures
    c.verifier_of_key.result c.verifier_of_key.ensures.ok

pub returns-in-Some-clause-err : goal.returns-in-Some-clause-err
returns-in-Some-clause-err c = lone_unmade (keys_of c.args.keys.now) c.args.validation c.args.limits c.in-Some.jwk.now
    c.in-Some.ensures c.verifier_of_key.result c.verifier_of_key.ensures.err

pub returns-in-None-clause-ok : goal.returns-in-None-clause-ok
returns-in-None-clause-ok c = set_made (keys_of c.args.keys.now) c.args.validation c.args.limits c.in-None.ensures
    c.verifier_of_set.result c.verifier_of_set.ensures.ok

pub returns-in-None-clause-err : goal.returns-in-None-clause-err
returns-in-None-clause-err c = set_unmade (keys_of c.args.keys.now) c.args.validation c.args.limits c.in-None.ensures
    c.verifier_of_set.result c.verifier_of_set.ensures.err
