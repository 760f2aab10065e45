use Rattle.std.proofs.Common.{IsSome, rules, inl, inr, refl}
use Rattle.serde_json.specs.Find.{as_object}
use Rattle.serde_json.specs.View.{view}
use Rattle.jwt_base.specs.Kind as kind
use Rattle.jwt_validation.specs.Claim.{claims_of}
use Rattle.jwt_validation.specs.ClaimRules.{text, kind_of_rule, missing, broken, IsErrorFor}
use Rattle.jwt_validation.proofs.ClaimsAlike.{missing_alike, holds_alike, kind_alike, broken_alike}
use Rattle.jwt_validation.proofs.check.check.Goals as goal

pub returns-then-not-is_object-clause-err : goal.returns-then-not-is_object-clause-err
returns-then-not-is_object-clause-err c = (kind.Json, inl (search rules, refl), inl (search rules))

pub returns-in-Some-clause-ok : goal.returns-in-Some-clause-ok
returns-in-Some-clause-ok c =
    let n = c.in-Some.name in
    let lacks = (missing_alike _ _ c.of-required.ensures _ _ c.read_asked-claims.ensures n).0 c.in-Some.ensures in
    (λ no. absurd (cc), λ h. absurd (h.1.required n lacks))

pub returns-in-Some-clause-err : goal.returns-in-Some-clause-err
returns-in-Some-clause-err c =
    let is_map : IsSome (as_object (view c.args.claims.now)) = search rules in
    let n = c.in-Some.name in
    let tells : IsErrorFor c.missing_claim.result (kind.MissingRequiredClaim (text n)) =
    rw (← c.text.ensures) c.missing_claim.ensures in
    let lacks = (missing_alike _ _ c.of-required.ensures _ _ c.read_asked-claims.ensures n).0 c.in-Some.ensures in
    (kind.MissingRequiredClaim (text n), inr (is_map, missing n lacks), tells)

pub returns-in-Some-first_broken-clause-ok : goal.returns-in-Some-first_broken-clause-ok
returns-in-Some-first_broken-clause-ok c =
    let r = c.in-Some-first_broken.rule in
    let fails = (broken_alike _ _ c.of-required.ensures _ _ c.read_asked-claims.ensures c.args.time r c.in-Some-first_broken.ensures).fails in
    (λ no. absurd (cc), λ h. absurd (fails (h.1.rules r)))

pub returns-in-Some-first_broken-clause-err : goal.returns-in-Some-first_broken-clause-err
returns-in-Some-first_broken-clause-err c =
    let is_map : IsSome (as_object (view c.args.claims.now)) = search rules in
    let r = c.in-Some-first_broken.rule in
    let alike = c.read_asked-claims.ensures in
    let first = c.in-Some-first_broken.ensures in
    let tells : IsErrorFor c.refusal.result (kind_of_rule (claims_of (view c.args.claims.now)) r) =
    rw (← kind_alike _ _ c.of-required.ensures _ _ alike c.args.time r first.fails) c.refusal.ensures in (
      kind_of_rule (claims_of (view c.args.claims.now)) r,
      inr (
        is_map,
        broken (λ n m. c.in_default.ensures n ((missing_alike _ _ c.of-required.ensures _ _ alike n).1 m)) r
            (broken_alike _ _ c.of-required.ensures _ _ alike c.args.time r first),
      ),
      tells,
    )

pub returns-in-None-clause-ok : goal.returns-in-None-clause-ok
returns-in-None-clause-ok c =
    let is_map : IsSome (as_object (view c.args.claims.now)) = search rules in
    let alike = c.read_asked-claims.ensures in (
      λ yes. (
        is_map,
        record {
          required = λ n m. c.in_default.ensures n ((missing_alike _ _ c.of-required.ensures _ _ alike n).1 m);
          rules = λ r. (holds_alike _ _ c.of-required.ensures _ _ alike c.args.time r).0 (c.in-None.ensures r);
        },
      ),
      λ h. refl,
    )
