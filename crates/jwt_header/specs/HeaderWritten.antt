-- A header, written and read again: its normal form.
use Rattle.std.specs.Prelude.{◌≡◌, ◌↔◌, Some, option_map}
use Rattle.serde_json.specs.Data.{Data}
use Rattle.jwt_header.specs.Enc.{normal_enc}
use Rattle.jwt_header.specs.Extras.{IsExtras}
use Rattle.jwt_header.specs.Header.{ReadsHeader, header_value}
use Rattle.jwt_header.specs.Zip.{normal_zip}
use Rattle.jwt_header.specs.declared.header.Header.{Header}
use Rattle.jwt_keys.specs.JwkWritten.{normal_key}

-- a free string that is a known spelling becomes the known value, and the key its normal form
abbrev pub normal_header : Header → Header
normal_header h = record h {
  enc = option_map normal_enc h.enc;
  zip = option_map normal_zip h.zip;
  jwk = option_map normal_key h.jwk;
}

-- its own normal form, and one that can be written
pub record IsNormal (h : Header) : Type 0 where
  pub itself : normal_header h ≡ h
  pub extras : IsExtras h.extras
  pub written : (d : Data) × (header_value h ≡ Some d)

-- A written header is read as its normal form alone; a normal form is its own; and two normal forms
-- are the same if they are written alike.
pub record HasNormalForm (h : Header) : Type 0 where
  pub reads_back : (d : Data) → header_value h ≡ Some d
      → (g : Header) → ReadsHeader d g ↔ (g ≡ normal_header h)
  pub once : normal_header (normal_header h) ≡ normal_header h
  pub told_apart : IsNormal h → (g : Header) → IsNormal g
      → (header_value h ≡ header_value g) ↔ (h ≡ g)
