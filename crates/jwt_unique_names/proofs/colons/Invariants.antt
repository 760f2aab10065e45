use Rattle.std.proofs.Common.{◌≡◌, ◌+◌, ◌≤◌, length}
use Rattle.json.specs.Lex.{lex, between}
use Rattle.jwt_unique_names.specs.private_clauses.Counts.{colons}
use Rattle.jwt_unique_names.proofs.colons.Given as goal

abbrev pub invariant-loop-rest : goal.invariant-loop-rest
invariant-loop-rest l = record {
  counted : l.count + colons (lex between l.rest) ≡ colons (lex between l.fn.text);
  shorter : l.count + length l.rest ≤ length l.fn.text;
}

abbrev pub decreases-loop-rest : goal.decreases-loop-rest
decreases-loop-rest l = length l.rest
