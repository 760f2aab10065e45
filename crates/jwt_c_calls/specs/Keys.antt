-- A JSON Web Key that stands for no key.
use Rattle.std.specs.Prelude.{◌≡◌}
use Rattle.jwt_base.specs.Kind.{Kind}
use Rattle.jwt_keys.specs.Key.{Key}
use Rattle.jwt_keys.specs.KeyOfJwk.{IsKeyOf, refusal_of}
use Rattle.jwt_keys.specs.declared.jwk.Jwk.{Jwk}

-- the kind with which a JSON Web Key that stands for no key is refused (RFC 7518 section 6)
abbrev pub StandsForNoKey : Jwk → Kind → Type 0
StandsForNoKey jwk k =
    (k ≡ refusal_of jwk.algorithm) × ((key : Key) → ¬ IsKeyOf jwk.algorithm key)
