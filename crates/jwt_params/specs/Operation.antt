-- The operations that keys may be used for, by name (RFC 7517 section 4.3).
use Rattle.std.specs.Prelude.{ℕ, List, [], ◌∷◌, Bool, true, false, Option, option_map, map, codes}
use Rattle.serde_json.specs.Data.{Data}
use Rattle.jwt_base.specs.Members.{texts, texts_value}
use Rattle.jwt_base.specs.Spelling.{Spelling, named, named_from, named_value, normal_named}
use Rattle.jwt_params.specs.declared.operations.KeyOperations.{KeyOperations}
use Rattle.jwt_params.specs.declared.operations.KeyOperations.TheVariants.{Sign, Verify, Encrypt, Decrypt, WrapKey}
use Rattle.jwt_params.specs.declared.operations.KeyOperations.TheVariants.{UnwrapKey, DeriveKey, DeriveBits, Other}

-- the eight names, "Other values MAY be used" (RFC 7517 section 4.3)
abbrev pub operation_text : KeyOperations → List ℕ
operation_text Sign = codes "sign"
operation_text Verify = codes "verify"
operation_text Encrypt = codes "encrypt"
operation_text Decrypt = codes "decrypt"
operation_text WrapKey = codes "wrapKey"
operation_text UnwrapKey = codes "unwrapKey"
operation_text DeriveKey = codes "deriveKey"
operation_text DeriveBits = codes "deriveBits"
operation_text (Other s) = s

abbrev pub known_operations : List KeyOperations
known_operations = Sign ∷ Verify ∷ Encrypt ∷ Decrypt ∷ WrapKey ∷ UnwrapKey ∷ DeriveKey ∷ DeriveBits ∷ []

abbrev pub is_other_operation : KeyOperations → Bool
is_other_operation (Other s) = true
is_other_operation known = false

abbrev pub operation_names : Spelling KeyOperations
operation_names = record { text = operation_text; known = known_operations; other = Other; is_other = is_other_operation }

abbrev pub operation_named : List ℕ → KeyOperations
operation_named = named operation_names

-- an entry of `key_ops` (RFC 7517 section 4.3)
abbrev pub operation_from : Data → Option KeyOperations
operation_from = named_from operation_names

abbrev pub operation_value : KeyOperations → Data
operation_value = named_value operation_names

abbrev pub normal_operation : KeyOperations → KeyOperations
normal_operation = normal_named operation_names

-- the value of `key_ops`, "an array of key operation values" (RFC 7517 section 4.3)
abbrev pub operations_from : Data → Option (List KeyOperations)
operations_from d = option_map (map operation_named) (texts d)

abbrev pub operations_value : List KeyOperations → Data
operations_value os = texts_value (map operation_text os)

abbrev pub normal_operations : List KeyOperations → List KeyOperations
normal_operations os = map operation_named (map operation_text os)
