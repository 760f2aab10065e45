use Rattle.std.proofs.Common.{List, ⊎_elim, inl, inr, refl, subst}
use Rattle.jwt_validation.specs.OptionsOf.{options_of}
use Rattle.jsonwebtoken.specs.Calls.{Carries}
use Rattle.jsonwebtoken.specs.Own.{listed, with_algorithms}
use Rattle.jsonwebtoken.specs.Refused.{DecidesByTest}
use Rattle.jsonwebtoken.specs.Tests.{token_tests}
use Rattle.jsonwebtoken.specs.declared.refusal.Test.{Test}
use Rattle.jwt_verifier.proofs.OrderLemmas.{same_order}
use Rattle.jwt_command.specs.Accepted.{checking}
use Rattle.jwt_command.proofs.verify.verdict.decode_token.Goals as goal

pub returns-then-lists_none : goal.returns-then-lists_none
returns-then-lists_none c =
    let keys = c.args.case.loaded.now.keys.keys in
    let own = c.decode_by_own_algorithm.result.0 in
    let settled = with_algorithms (options_of c.args.validation.now) (listed own) in
    let call = checking c.args.case.token.now keys settled c.args.case.time in
    ⊎_elim (λ named. inr (
      settled,
      inr (c.lists_none.ensures.none c.if-lists_none.true, (own, named, refl)),
      subst (λ (order : List Test). DecidesByTest (token_tests call) order (Carries call) c.decode_by_own_algorithm.result.1)
          (same_order keys) c.decode_by_own_algorithm.ensures.decided,
    )) (λ none. inl none.1) c.decode_by_own_algorithm.ensures.own

pub returns : goal.returns
returns c =
    let keys = c.args.case.loaded.now.keys.keys in
    let options = options_of c.args.validation.now in
    let call = checking c.args.case.token.now keys options c.args.case.time in
    inr (
      options,
      inl (c.lists_none.ensures.some c.if-lists_none.false, refl),
      subst (λ (order : List Test). DecidesByTest (token_tests call) order (Carries call) c.decode_by_or_refusal.result)
          (same_order keys) c.decode_by_or_refusal.ensures,
    )
