use Rattle.jwt_c_calls.proofs.unverified.part_bytes.Goals as goal

pub returns-in-Header-clause-err : goal.returns-in-Header-clause-err
returns-in-Header-clause-err c = rw c.in-Header.is c.insecure_header_bytes.ensures.refused

pub returns-in-Payload-clause-err : goal.returns-in-Payload-clause-err
returns-in-Payload-clause-err c = rw c.in-Payload.is c.insecure_payload_bytes.ensures.refused
