use Rattle.std.proofs.Common.{sym}
use Rattle.jwt_key_files.proofs.Pairs.{only_signature, only_value}
use Rattle.jwt_key_files.proofs.signature.ecdsa_signature.Goals as goal

pub returns-clause-only : goal.returns-clause-only
returns-clause-only c = only_signature _ _ _ _ (sym c.in-Some.ensures) c.in_ok-signature.ensures.ok

pub returns-clause-one_der : goal.returns-clause-one_der
returns-clause-one_der c = only_value _ _ _ _ (sym c.in-Some.ensures) c.in_ok-signature.ensures.ok
