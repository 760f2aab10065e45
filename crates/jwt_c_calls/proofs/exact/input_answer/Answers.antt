use Rattle.serde_json.specs.Data.{Data}
use Rattle.jwt_c_calls.specs.BySignature.{NamesAlgorithm}
use Rattle.jwt_c_calls.specs.Exact.{ReadsExactPayload}
use Rattle.jwt_c_calls.specs.declared.inputs.Input.TheVariants as input
use Rattle.jwt_c_calls.proofs.Answered.{read_ok}
use Rattle.jwt_c_calls.proofs.exact.input_answer.Goals as goal

pub returns-clause-ok : goal.returns-clause-ok
returns-clause-ok c =
    let h = read_ok (NamesAlgorithm c.args.header.now) input.Header c.exact_header.result _ c.in_ok-algorithm.ensures
    c.exact_header.ensures.ok in
    let d = read_ok (λ _. (d : Data) × ReadsExactPayload c.args.payload.now d) input.Claims c.check_payload.result _
    c.in_ok-read_as.ensures c.check_payload.ensures.ok in
    ((h.0, d.0), (h.1, d.1), c.in_ok-message.ensures.ok)
