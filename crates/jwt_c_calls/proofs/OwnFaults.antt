-- Options whose usual part is read are an object.
use Rattle.std.proofs.Common.{refl}
use Rattle.std.specs.Prelude.{IsSome}
use Rattle.serde_json.specs.Data.{Data, null, boolean, number, string, array, object}
use Rattle.serde_json.specs.Find.{as_object}
use Rattle.jwt_validation.specs.Options.{Options}
use Rattle.jwt_validation.specs.OptionsRead.{ReadsOptions}
use Rattle.jwt_c_calls.specs.Asked.{usual_part}

pub is_object : (value : Data) (o : Options) → ReadsOptions (usual_part value) o → IsSome (as_object value)
is_object null o r = let none = r.names in absurd cc
is_object (boolean b) o r = let none = r.names in absurd cc
is_object (number n) o r = let none = r.names in absurd cc
is_object (string s) o r = let none = r.names in absurd cc
is_object (array ds) o r = let none = r.names in absurd cc
is_object (object ms) o r = refl
