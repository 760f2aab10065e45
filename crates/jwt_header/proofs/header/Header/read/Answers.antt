use Rattle.std.proofs.Common.{◌≡◌, Some, rules}
use Rattle.std.proofs.lemmas.Result.{err_from_is_err_and}
use Rattle.serde_json.specs.Find.{as_object}
use Rattle.serde_json.specs.View.{view, members_view}
use Rattle.jwt_header.proofs.Unreadable.{unreadable-crit, unreadable-enc, unreadable-zip, unreadable-extras}
use Rattle.jwt_header.proofs.header.Header.read.Goals as goal

pub returns-in_err-optional_texts-2-clause-err : goal.returns-in_err-optional_texts-2-clause-err
returns-in_err-optional_texts-2-clause-err c =
    let p = err_from_is_err_and c.from_residual-in_err-optional_texts-2.result
    c.from_residual-in_err-optional_texts-2.ensures.1 in
    rw (p.1, p.2) (unreadable-crit (view c.args.value.now) _ c.in_err-optional_texts-2.ensures.err)

pub returns-in_err-optional_enc-clause-err : goal.returns-in_err-optional_enc-clause-err
returns-in_err-optional_enc-clause-err c =
    let p = err_from_is_err_and c.from_residual-in_err-optional_enc.result c.from_residual-in_err-optional_enc.ensures.1 in
    rw (p.1, p.2) (unreadable-enc (view c.args.value.now) _ c.in_err-optional_enc.ensures.err)

pub returns-in_err-optional_zip-clause-err : goal.returns-in_err-optional_zip-clause-err
returns-in_err-optional_zip-clause-err c =
    let p = err_from_is_err_and c.from_residual-in_err-optional_zip.result c.from_residual-in_err-optional_zip.ensures.1 in
    rw (p.1, p.2) (unreadable-zip (view c.args.value.now) _ c.in_err-optional_zip.ensures.err)

pub returns-in_err-among-clause-err : goal.returns-in_err-among-clause-err
returns-in_err-among-clause-err c =
    let is : as_object (view c.args.value.now) ≡ Some (members_view c.in-Some.members.now.entries) =
    search (rules, c.in-Some.ensures) in
    let p = err_from_is_err_and c.from_residual-in_err-among.result c.from_residual-in_err-among.ensures.1 in
    rw (p.1, p.2) (unreadable-extras (view c.args.value.now) _ _ is c.in_err-among.ensures.err)
