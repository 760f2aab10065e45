use Rattle.std.proofs.Common.{◌≡◌, ◌∙◌, ap, sym, Some}
use Rattle.jwt_c_calls.proofs.Decided.{told_by, told_by_none}
use Rattle.jwt_c.proofs.jwt_verifier_decode.Goals as goal

pub returns-in-Some-clause-said : goal.returns-in-Some-clause-said
returns-in-Some-clause-said c =
    let held : c.args.verifier.now.held ≡ Some c.deref.result.now
    = c.in-Some.ensures.taken ∙ ap (λ x. Some x) (sym c.deref.ensures) in
    told_by c.args.token.now c.args.time c.write_verdict.new.said c.write_verdict.result c.args.room.now c.write_verdict.new.room
    c.args.verifier.now.held c.deref.result.now held c.answer_in-answer.result c.answer_in-answer.ensures.ok
    c.answer_in-answer.ensures.err c.write_verdict.ensures.given c.write_verdict.ensures.kept
