use Rattle.std.proofs.Common.{sym, ap, ◌∙◌, option_map, inl, inr}
use Rattle.jwt_validation.specs.OptionsFault.{shape}
use Rattle.jwt_validation.proofs.OptionsFaultLemmas.{known_names, other_unread, malformed_unread, slip_unread}
use Rattle.jwt_validation.proofs.OptionsFaultLemmas.{faultless_read}
use Rattle.jwt_validation.proofs.fault.options_fault.Goals as goal

pub returns-in-Some-first_other-clause-unread : goal.returns-in-Some-first_other-clause-unread
returns-in-Some-first_other-clause-unread c =
    other_unread _ _ _ (sym c.in-Some.ensures) (sym c.in-Some-first_other.ensures)

pub returns-in-Some-first_malformed-clause-some : goal.returns-in-Some-first_malformed-clause-some
returns-in-Some-first_malformed-clause-some c = (
  known_names _ _ (sym c.in-Some.ensures) (sym c.in_default-first_other.ensures),
  inl (sym c.first_malformed.ensures ∙ ap (option_map (λ s. shape s.0.now s.1)) c.in-Some-first_malformed.is),
)

pub returns-in-Some-first_malformed-clause-unread : goal.returns-in-Some-first_malformed-clause-unread
returns-in-Some-first_malformed-clause-unread c = malformed_unread _ _
    (sym c.first_malformed.ensures ∙ ap (option_map (λ s. shape s.0.now s.1)) c.in-Some-first_malformed.is)

pub returns-in-Some-first_slip-clause-some : goal.returns-in-Some-first_slip-clause-some
returns-in-Some-first_slip-clause-some c = (
  known_names _ _ (sym c.in-Some.ensures) (sym c.in_default-first_other.ensures),
  inr (
    sym c.in_default-first_malformed.ensures,
    sym c.first_slip.ensures ∙ ap (option_map (λ s. shape s.0.now s.1)) c.in-Some-first_slip.is,
  ),
)

pub returns-in-Some-first_slip-clause-unread : goal.returns-in-Some-first_slip-clause-unread
returns-in-Some-first_slip-clause-unread c = slip_unread _ _
    (sym c.first_slip.ensures ∙ ap (option_map (λ s. shape s.0.now s.1)) c.in-Some-first_slip.is)

pub returns-in-None-clause-none : goal.returns-in-None-clause-none
returns-in-None-clause-none c = faultless_read _
    (known_names _ _ (sym c.in-Some.ensures) (sym c.in_default-first_other.ensures))
    (sym c.in_default-first_malformed.ensures) (sym c.in-None.ensures)
