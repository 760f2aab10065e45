-- The options of a `Validation`.
use Rattle.std.specs.Prelude.{option_map, string_bytes}
use Rattle.std.specs.HashSet.{contains_text}
use Rattle.jwt_validation.specs.Options.{Options}
use Rattle.jwt_validation.specs.declared.validation.Validation.{Validation}

abbrev pub options_of : Validation → Options
options_of v = record {
  required = contains_text v.required_spec_claims;
  leeway = v.leeway;
  reject = v.reject_tokens_expiring_in_less_than;
  checks_exp = v.validate_exp;
  checks_nbf = v.validate_nbf;
  checks_aud = v.validate_aud;
  aud = option_map contains_text v.aud;
  iss = option_map contains_text v.iss;
  sub = option_map string_bytes v.sub;
  algorithms = v.algorithms.items;
  understood = contains_text v.understood_crit;
}
