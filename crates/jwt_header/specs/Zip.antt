-- The algorithms that compress content, by name (RFC 7516 section 4.1.3).
use Rattle.std.specs.Prelude.{ℕ, List, [], ◌∷◌, Bool, true, false, Option, codes}
use Rattle.serde_json.specs.Data.{Data}
use Rattle.jwt_base.specs.Spelling.{Spelling, named, named_from, named_value, normal_named}
use Rattle.jwt_header.specs.declared.names.Zip.{Zip}
use Rattle.jwt_header.specs.declared.names.Zip.TheVariants.{Deflate, Other}

-- the name `DEF`, "Other values MAY be used" (RFC 7516 section 4.1.3)
abbrev pub zip_text : Zip → List ℕ
zip_text Deflate = codes "DEF"
zip_text (Other s) = s

abbrev pub is_other_zip : Zip → Bool
is_other_zip Deflate = false
is_other_zip (Other s) = true

abbrev pub zip_names : Spelling Zip
zip_names = record { text = zip_text; known = Deflate ∷ []; other = Other; is_other = is_other_zip }

abbrev pub zip_named : List ℕ → Zip
zip_named = named zip_names

-- the value of the header's `zip` (RFC 7516 section 4.1.3)
abbrev pub zip_from : Data → Option Zip
zip_from = named_from zip_names

abbrev pub zip_value : Zip → Data
zip_value = named_value zip_names

abbrev pub normal_zip : Zip → Zip
normal_zip = normal_named zip_names
