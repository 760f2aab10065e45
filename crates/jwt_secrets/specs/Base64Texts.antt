-- What a text is in base64, in each form that programs write: in either alphabet, with or without padding and white space.
use Rattle.std.specs.Prelude.{◌≡◌, ℕ, ◌+◌, ◌-◌, ◌%◌, ◌<◌, ◌==◌, ◌||◌, Bool, not, List, ◌++◌, length, take, replicate}
use Rattle.std.specs.Prelude.{map, filter, if◌then◌else◌}
use Rattle.std.specs.List.{suffix_len}
use Rattle.jwt_base.specs.Base64Url.{IsPart}

-- a space, a tab, a line feed or a carriage return
abbrev pub is_white : ℕ → Bool
is_white byte = byte == 0x20 || byte == 0x09 || byte == 0x0a || byte == 0x0d

-- the character of the URL alphabet for the value of a character of the standard one (RFC 4648 sections 4 and 5)
abbrev pub of_url : ℕ → ℕ
of_url byte = if byte == 0x2b then 0x2d else (if byte == 0x2f then 0x5f else byte)

-- the text without white space, in the URL alphabet
unfoldable pub characters : (text : List ℕ) → List ℕ
characters text = map of_url (filter (λ byte. not (is_white byte)) text)

-- the characters without each `=` at their end
unfoldable pub unpadded : (characters : List ℕ) → List ℕ
unpadded characters = take (length characters - suffix_len (λ byte. byte == 0x3d) characters) characters

-- The digits, with zero bits after them up to groups of four, are the base64url text of the bytes and of as many more as
-- digits were added. So bits of the last digit that belong to no byte may be set (RFC 4648 section 3.5).
pub record StandsFor (digits bytes : List ℕ) : Type 0 where
  pub more : List ℕ
  pub few : length more < 3
  pub groups : (length digits + length more) % 4 ≡ 0
  pub part : IsPart (digits ++ replicate (length more) 0x41) (bytes ++ more)

-- the text is base64 of the bytes
abbrev pub IsBase64 : (text bytes : List ℕ) → Type 0
IsBase64 text bytes = StandsFor (unpadded (characters text)) bytes
