-- For private clauses: what a token is checked against, and the key that was found for it.
use Rattle.jwt_keys.specs.Key.{Key}
use Rattle.jwt_validation.specs.Options.{Options}
use Rattle.jwt_validation.specs.OptionsOf.{options_of}
use Rattle.jsonwebtoken.specs.Family.{left_for}
use Rattle.jsonwebtoken.specs.Own.{with_algorithms}
use Rattle.jsonwebtoken.specs.Tests.{Call, Given}
use Rattle.jsonwebtoken.specs.declared.decoding.parts.Asked.{Asked}

-- the options, with the algorithms that are accepted
abbrev pub options_asked : Asked → Options
options_asked asked = with_algorithms (options_of asked.validation.now) (left_for asked.family asked.algorithms.now)

-- the call with this key
abbrev pub given_key : {T : Type 0} → Call T → Key → Call T
given_key call key = record call { keys = Given key }
