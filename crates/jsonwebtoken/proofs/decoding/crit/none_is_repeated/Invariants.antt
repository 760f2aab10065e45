use Rattle.jsonwebtoken.proofs.Repeats.{ApartBelow}
use Rattle.jsonwebtoken.proofs.decoding.crit.none_is_repeated.Given as goal

abbrev pub invariant-loop-place : goal.invariant-loop-place
invariant-loop-place l = ApartBelow l.names l.place
