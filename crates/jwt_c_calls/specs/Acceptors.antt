-- A verifier with the further rules of its options.
use Rattle.std.specs.Prelude.{List, map}
use Rattle.std.specs.Arc.{arc_value}
use Rattle.jwt_further.specs.Further.{FurtherRules, rules_of}
use Rattle.jwt_verifier.specs.declared.verifier.Verifier.{Verifier}
use Rattle.jwt_c_calls.specs.declared.acceptors.Acceptor.{Acceptor}
use Rattle.jwt_c_calls.specs.declared.acceptors.Made.{Made}

pub record Accepting : Type 0 where
  pub verifier : Verifier
  pub further : FurtherRules

-- for private clauses: what a holder, and what was made, is
abbrev pub accepting : Acceptor → Accepting
accepting a = record { verifier = arc_value a.verifier; further = rules_of a.further }

abbrev pub made_value : Made → Accepting
made_value m = record { verifier = m.verifier; further = rules_of m.further }

abbrev pub accepting_all : List Acceptor → List Accepting
accepting_all = map accepting
