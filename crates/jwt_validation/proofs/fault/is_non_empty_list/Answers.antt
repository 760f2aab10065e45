use Rattle.std.proofs.Common.{sym, ap, ◌∙◌, option_map, unwrap_or, false}
use Rattle.jwt_validation.specs.OptionsRead.{has_item}
use Rattle.jwt_validation.proofs.OptionsFaultLemmas.{has_first}
use Rattle.jwt_validation.proofs.fault.is_non_empty_list.Goals as goal

pub returns-in_default-as_slice : goal.returns-in_default-as_slice
returns-in_default-as_slice c =
    sym (has_first _ (rw (c.as_slice.ensures.value) at c.in_default-as_slice.len_at_least))
    ∙ ap (λ o. unwrap_or (option_map has_item o) false) c.in-Some.ensures
