-- The kinds that the faults of the libraries below are converted to.
use Rattle.std.specs.Prelude.{◌≡◌, ◌⊎◌}
use Rattle.base64.specs.declared.decode.DecodeAllocError.{DecodeAllocError}
use Rattle.base64.specs.declared.decode.DecodeAllocError.TheVariants as fault
use Rattle.serde_json.specs.Errors as json
use Rattle.serde_json.specs.declared.error.Error as json_error
use Rattle.jwt_base.specs.Kind.{Kind}
use Rattle.jwt_base.specs.Kind as kind
use Rattle.jwt_base.specs.KindOf.{kind_of, IsMemory}
use Rattle.jwt_base.specs.declared.errors.Error.{Error}

abbrev pub base64_kind : DecodeAllocError → Kind
base64_kind fault.OutOfMemory = kind.OutOfMemory
base64_kind (fault.DecodeError e) = kind.Base64

-- out of memory stays so; every other fault of the JSON reader is `Json`
abbrev pub IsJsonFault : json_error.Error → Error → Type 0
IsJsonFault fault e = (json.IsMemory fault × IsMemory e) ⊎ ((¬ json.IsMemory fault) × (kind_of e ≡ kind.Json))
