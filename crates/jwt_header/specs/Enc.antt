-- The algorithms that encrypt content, by name (RFC 7518 section 5.1).
use Rattle.std.specs.Prelude.{ℕ, List, [], ◌∷◌, Bool, true, false, Option, codes}
use Rattle.serde_json.specs.Data.{Data}
use Rattle.jwt_base.specs.Spelling.{Spelling, named, named_from, named_value, normal_named}
use Rattle.jwt_header.specs.declared.names.Enc.{Enc}
use Rattle.jwt_header.specs.declared.names.Enc.TheVariants.{A128CBC_HS256, A192CBC_HS384, A256CBC_HS512, A128GCM}
use Rattle.jwt_header.specs.declared.names.Enc.TheVariants.{A192GCM, A256GCM, Other}

-- the six names of the table (RFC 7518 section 5.1), and any other
abbrev pub enc_text : Enc → List ℕ
enc_text A128CBC_HS256 = codes "A128CBC-HS256"
enc_text A192CBC_HS384 = codes "A192CBC-HS384"
enc_text A256CBC_HS512 = codes "A256CBC-HS512"
enc_text A128GCM = codes "A128GCM"
enc_text A192GCM = codes "A192GCM"
enc_text A256GCM = codes "A256GCM"
enc_text (Other s) = s

abbrev pub known_encs : List Enc
known_encs = A128CBC_HS256 ∷ A192CBC_HS384 ∷ A256CBC_HS512 ∷ A128GCM ∷ A192GCM ∷ A256GCM ∷ []

abbrev pub is_other_enc : Enc → Bool
is_other_enc (Other s) = true
is_other_enc known = false

abbrev pub enc_names : Spelling Enc
enc_names = record { text = enc_text; known = known_encs; other = Other; is_other = is_other_enc }

abbrev pub enc_named : List ℕ → Enc
enc_named = named enc_names

-- the value of the header's `enc` (RFC 7516 section 4.1.2)
abbrev pub enc_from : Data → Option Enc
enc_from = named_from enc_names

abbrev pub enc_value : Enc → Data
enc_value = named_value enc_names

abbrev pub normal_enc : Enc → Enc
normal_enc = normal_named enc_names
