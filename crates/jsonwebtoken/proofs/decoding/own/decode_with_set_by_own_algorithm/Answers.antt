use Rattle.jsonwebtoken.proofs.decoding.own.decode_with_set_by_own_algorithm.Goals as goal

pub returns-clause-own : goal.returns-clause-own
returns-clause-own g c = c.decode_by_own_algorithm.ensures.own

pub returns-clause-decided : goal.returns-clause-decided
returns-clause-decided g c = c.decode_by_own_algorithm.ensures.decided
