use Rattle.jwt_verifier.proofs.PreparedLemmas.{all_agree}
use Rattle.jwt_verifier.proofs.key_ring.agreeing.Goals as goal

pub returns-in-None : goal.returns-in-None
returns-in-None c = all_agree c.args.listed.now c.args.jwk.now c.in-None.is
