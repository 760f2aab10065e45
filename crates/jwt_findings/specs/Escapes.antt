-- Text in which each character is seen: those of control and of format are written as escapes of JSON.
use Rattle.std.specs.Prelude.{ℕ, ◌/◌, ◌%◌, List, [], ◌∷◌, ◌++◌, Bool, ◌&&◌, ◌||◌, ◌==◌, not, flat_map, if◌then◌else◌, codes}
use Rattle.std.specs.Char.{digit_char, encode_utf8, is_control}
use Rattle.std.specs.Char.Escape.{encode_utf16}
use Rattle.std.specs.Int.{is_in_range}
use Rattle.std.specs.Str.{chars}

-- a character of format (Unicode 16, general category Cf)
abbrev pub is_of_format : ℕ → Bool
is_of_format c =
    (c == 0xad) || (c == 0x61c) || (c == 0x6dd) || (c == 0x70f) || (c == 0x8e2) || (c == 0x180e) || (c == 0xfeff)
    || is_in_range 0x600 0x605 c || is_in_range 0x890 0x891 c || is_in_range 0x200b 0x200f c
    || is_in_range 0x202a 0x202e c || is_in_range 0x2060 0x2064 c || is_in_range 0x2066 0x206f c
    || is_in_range 0xfff9 0xfffb c || (c == 0x110bd) || (c == 0x110cd) || is_in_range 0x13430 0x1343f c
    || is_in_range 0x1bca0 0x1bca3 c || is_in_range 0x1d173 0x1d17a c || (c == 0xe0001)
    || is_in_range 0xe0020 0xe007f c

-- a character that is not seen as it stands: one of control or of format, or a separator of lines (Unicode 16, general
-- categories Cc, Cf, Zl and Zp)
abbrev pub is_unseen : ℕ → Bool
is_unseen c = is_control c || is_of_format c || is_in_range 0x2028 0x2029 c

-- the escape of a code unit of UTF-16, with four digits (RFC 8259 section 7)
abbrev pub unit_escape : ℕ → List ℕ
unit_escape u =
    codes "\\u" ++ digit_char (u / 0x1000 % 16) ∷ digit_char (u / 0x100 % 16) ∷ digit_char (u / 0x10 % 16)
    ∷ digit_char (u % 16) ∷ []

-- a character that is written as an escape; a line end is not, since it stands between lines
abbrev pub is_to_escape : ℕ → Bool
is_to_escape c = not (c == 10) && is_unseen c

-- what is written for a character: the escapes of its code units, or itself
abbrev pub seen : ℕ → List ℕ
seen c = if is_to_escape c then flat_map unit_escape (encode_utf16 c) else encode_utf8 c

-- the text with the characters that are not seen written as escapes
abbrev pub escaped : List ℕ → List ℕ
escaped text = flat_map seen (chars text)
