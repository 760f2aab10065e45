use Rattle.std.proofs.Common.{◌∙◌, ap, sym}
use Rattle.std.specs.Prelude.{option_and_then}
use Rattle.jsonwebtoken.specs.Own.{own_of}
use Rattle.jwt_verifier.proofs.RingLemmas.{of_entry}
use Rattle.jwt_verifier.proofs.ring_finder.own_in_set.Goals as goal

pub returns-in-Some : goal.returns-in-Some
returns-in-Some c =
    let jwk = c.index-keys-entry.result in
    let entry = of_entry c.args.keys.now c.args.header.now c.in-Some.entry.now jwk c.in-Some.ensures c.index-keys-entry.is in
    c.own_algorithm.ensures ∙ sym (ap (option_and_then own_of) entry.0)

pub returns-in-None : goal.returns-in-None
returns-in-None c = sym (ap (option_and_then own_of) c.in-None.ensures)
