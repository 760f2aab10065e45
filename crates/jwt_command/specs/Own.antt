-- The algorithm that the one key is for, by its own `alg`, which takes the place of one that is given.
use Rattle.std.specs.Prelude.{List, [], ◌∷◌, Option}
use Rattle.jwt_base.specs.declared.algorithms.Algorithm.{Algorithm}
use Rattle.jwt_validation.specs.Options.{Options}
use Rattle.jsonwebtoken.specs.Own.{listed, with_algorithms}

-- the algorithms that are listed; if none is, the one that the key is for
abbrev pub or_own : List Algorithm → Option Algorithm → List Algorithm
or_own [] own = listed own
or_own (a ∷ rest) own = a ∷ rest

-- the options with the algorithm that the key is for, if they name none (RFC 8725 section 3.1)
abbrev pub with_key_algorithm : Option Algorithm → Options → Options
with_key_algorithm own options = with_algorithms options (or_own options.algorithms own)
