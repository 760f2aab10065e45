use Rattle.jwt_tool_command.proofs.run.command_answer.Goals as goal

pub returns-in-Decode : goal.returns-in-Decode
returns-in-Decode c = rw c.in-Decode.is c.claims_answer.ensures

pub returns-in-Encode : goal.returns-in-Encode
returns-in-Encode c = rw c.in-Encode.is c.token_answer.ensures

pub returns-in-DecodeWithSet : goal.returns-in-DecodeWithSet
returns-in-DecodeWithSet c = rw c.in-DecodeWithSet.is c.set_claims_answer.ensures

pub returns-in-Thumbprint : goal.returns-in-Thumbprint
returns-in-Thumbprint c = rw c.in-Thumbprint.is c.thumbprint_answer.ensures
