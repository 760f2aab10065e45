use Rattle.std.proofs.Common.{rules}
use Rattle.std.specs.Str.{bytes_eq}
use Rattle.std.proofs.lemmas.Iterator.Search.{any_from_yields_List}
use Rattle.std.proofs.lemmas.Iterator.Splits.{YieldsList-from_slice_split}
use Rattle.jwt_c_calls.proofs.membership.has_part.Goals as goal

pub returns : goal.returns
returns c = any_from_yields_List (λ w. bytes_eq w c.args.part.now) _ _ _ c.any.ensures.ran
    (YieldsList-from_slice_split _ _ c.args.text.now c.split.ensures.rest c.split.ensures.done c.split.ensures.closure
    (λ x r q k. search rules))
    (λ x b q k. search rules)
