use Rattle.std.proofs.Common.{◌≡◌, ◌≤◌, length}
use Rattle.json.specs.Lex.{lex, in_string}
use Rattle.jwt_unique_names.proofs.after_string.Given as goal

abbrev pub invariant-loop-rest : goal.invariant-loop-rest
invariant-loop-rest l = record {
  same : lex in_string l.fn.text ≡ lex in_string l.rest;
  shorter : length l.rest ≤ length l.fn.text;
}

abbrev pub decreases-loop-rest : goal.decreases-loop-rest
decreases-loop-rest l = length l.rest
