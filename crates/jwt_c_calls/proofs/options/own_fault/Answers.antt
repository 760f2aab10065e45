use Rattle.std.proofs.Common.{inl, inr, rules, sym}
use Rattle.std.proofs.lemmas.Result.{IfOk-weaker}
use Rattle.serde_json.specs.View.{view}
use Rattle.jwt_c_calls.proofs.OwnFaults.{is_object}
use Rattle.jwt_c_calls.proofs.options.own_fault.Goals as goal

pub returns-in-Some-empty_member-clause-ok : goal.returns-in-Some-empty_member-clause-ok
returns-in-Some-empty_member-clause-ok c =
    let rules_read = c.in_default.ensures.read (is_object (view c.args.value.now) c.requires.0 c.requires.1) in
    IfOk-weaker c.name_and_text-in-Some-empty_member.result _ _ (λ b said.
    inr (inr (c.requires, inr (rules_read, (c.in-Some-empty_member.name.now, c.in-Some-empty_member.ensures, said)))))
    c.name_and_text-in-Some-empty_member.ensures.ok

pub returns-in-None-clause-ok : goal.returns-in-None-clause-ok
returns-in-None-clause-ok c =
    let rules_read = c.in_default.ensures.read (is_object (view c.args.value.now) c.requires.0 c.requires.1) in
    inl (
      (
        record { usual = c.requires.0; further = rules_read.0 },
        record { no_empty = c.in-None.ensures; further = rules_read.1; usual = c.requires.1 },
      ),
      c.new.ensures.items,
    )
