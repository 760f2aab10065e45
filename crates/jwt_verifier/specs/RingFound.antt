-- The key that was found in a ring.
use Rattle.std.specs.Prelude.{⊤}
use Rattle.jwt_keys.specs.Key.{Key}
use Rattle.jwt_verifier.specs.PreparedOf.{IsPreparedOf}
use Rattle.jwt_verifier.specs.declared.ring_finder.Found.{Found}
use Rattle.jwt_verifier.specs.declared.ring_finder.Found.TheVariants.{Kept, Made}

abbrev pub found_key : Found → Key
found_key (Kept key prepared) = key.now
found_key (Made key) = key

-- what is prepared is of the key that was found
abbrev pub IsFit : Found → Type 0
IsFit (Kept key prepared) = IsPreparedOf key.now prepared.now
IsFit (Made key) = ⊤
