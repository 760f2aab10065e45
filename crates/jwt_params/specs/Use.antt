-- The uses of public keys, by name (RFC 7517 section 4.2).
use Rattle.std.specs.Prelude.{ℕ, List, [], ◌∷◌, Bool, true, false, Option, codes}
use Rattle.serde_json.specs.Data.{Data}
use Rattle.jwt_base.specs.Spelling.{Spelling, named, named_from, named_value, normal_named}
use Rattle.jwt_params.specs.declared.uses.PublicKeyUse.{PublicKeyUse}
use Rattle.jwt_params.specs.declared.uses.PublicKeyUse.TheVariants.{Signature, Encryption, Other}

-- the names: `sig` and `enc`, "Other values MAY be used" (RFC 7517 section 4.2)
abbrev pub use_text : PublicKeyUse → List ℕ
use_text Signature = codes "sig"
use_text Encryption = codes "enc"
use_text (Other s) = s

abbrev pub known_uses : List PublicKeyUse
known_uses = Signature ∷ Encryption ∷ []

abbrev pub is_other_use : PublicKeyUse → Bool
is_other_use (Other s) = true
is_other_use known = false

abbrev pub use_names : Spelling PublicKeyUse
use_names = record { text = use_text; known = known_uses; other = Other; is_other = is_other_use }

abbrev pub use_named : List ℕ → PublicKeyUse
use_named = named use_names

-- the value of `use` (RFC 7517 section 4.2)
abbrev pub use_from : Data → Option PublicKeyUse
use_from = named_from use_names

abbrev pub use_value : PublicKeyUse → Data
use_value = named_value use_names

abbrev pub normal_use : PublicKeyUse → PublicKeyUse
normal_use = normal_named use_names
