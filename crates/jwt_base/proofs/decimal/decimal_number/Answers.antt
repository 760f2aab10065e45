use Rattle.std.proofs.Common.{rules, ◌∙◌}
use Rattle.std.proofs.lemmas.Str.Parse.{numerals_by_value, tells_all_ascii_digits, parse_plain}
use Rattle.jwt_base.proofs.DecimalNumbers.{number_read}
use Rattle.jwt_base.proofs.decimal.decimal_number.Goals as goal

pub returns : goal.returns
returns c = c.ok.ensures.value
    ∙ number_read c.args.text.now _ (parse_plain (numerals_by_value _ tells_all_ascii_digits) 64 c.args.text.now _
    c.parse.ensures.value.0 (search rules))
