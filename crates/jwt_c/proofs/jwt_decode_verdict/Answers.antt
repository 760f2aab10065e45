use Rattle.std.proofs.Common.{ℕ, List, Result, Ok, Err, IfOk, IfErr}
use Rattle.jwt_c_calls.specs.Calls.{Leaves, answer_in, refusal_status}
use Rattle.jwt_c_calls.specs.Status.{IsGiven, IsKept}
use Rattle.jwt_c_calls.specs.declared.inputs.CallError.{CallError}
use Rattle.jwt_c_calls.specs.declared.inputs.CallError.TheVariants as refused
use Rattle.jwt_c.proofs.jwt_decode_verdict.Goals as goal

-- the form in which a result is left
left : {V : Type 0} (items : V → List ℕ) (r : Result V CallError) (s n : ℕ) (old new : List ℕ)
    → IfOk r (λ b. IsGiven (items b) s n old new) → IfErr r (λ e. IsKept (refusal_status e) s n old new)
    → Leaves (answer_in items r) s n old new
left items (Ok b) s n old new given kept = given
left items (Err (refused.Input i)) s n old new given kept = kept
left items (Err (refused.Token e)) s n old new given kept = kept
left items (Err (refused.Further f)) s n old new given kept = kept

pub returns : goal.returns
returns c = (
  answer_in (λ b. b.items) c.given_verdict_answer-answer.result,
  c.given_verdict_answer-answer.ensures,
  c.claim_in.ensures,
  left (λ b. b.items) c.given_verdict_answer-answer.result c.leave.result c.leave.new.len c.args.room.now c.leave.new.room
      c.leave.ensures.given c.leave.ensures.kept,
)
