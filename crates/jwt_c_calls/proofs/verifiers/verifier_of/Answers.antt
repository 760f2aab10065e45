use Rattle.std.proofs.Common.{subst, IfOk}
use Rattle.jwt_base.specs.JsonText.{ReadsText}
use Rattle.jwt_validation.specs.OptionsOf.{options_of}
use Rattle.jwt_c_calls.specs.Asked.{ReadsAsked, asked_of}
use Rattle.jwt_c_calls.specs.KeyLists.{keys_of}
use Rattle.jwt_c_calls.specs.Verifiers.{IsVerifierBy, limits_of}
use Rattle.jwt_c_calls.specs.declared.inputs.Input.TheVariants as input
use Rattle.jwt_c_calls.proofs.Answered.{read_ok}
use Rattle.jwt_c_calls.proofs.Made.{not_of_read, of_read}
use Rattle.jwt_c_calls.proofs.verifiers.verifier_of.Goals as goal

pub returns-in-Ok-clause-ok : goal.returns-in-Ok-clause-ok
returns-in-Ok-clause-ok c =
    let asked = c.in-Ok.asked in
    let reads = read_ok (λ v. ReadsText ReadsAsked c.args.options.now (asked_of v)) input.Options c.read_options.result asked
    c.in-Ok.ensures c.read_options.ensures.ok in
    of_read (keys_of c.args.keys.now) c.args.options.now asked (limits_of c.args.max_len c.args.max_prepared) reads c.made_by.result
    (subst (λ l. IfOk c.made_by.result (λ m. IsVerifierBy (keys_of c.args.keys.now) (options_of asked.validation) l m.verifier))
    c.limits.ensures c.made_by.ensures.ok) c.made_by.ensures.further

pub returns-in-Ok-clause-err : goal.returns-in-Ok-clause-err
returns-in-Ok-clause-err c =
    let asked = c.in-Ok.asked in
    let reads = read_ok (λ v. ReadsText ReadsAsked c.args.options.now (asked_of v)) input.Options c.read_options.result asked
    c.in-Ok.ensures c.read_options.ensures.ok in
    not_of_read (keys_of c.args.keys.now) c.args.options.now asked (limits_of c.args.max_len c.args.max_prepared) reads
    c.made_by.result c.made_by.ensures.err
