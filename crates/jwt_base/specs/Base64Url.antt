-- The base64 texts of bytes (RFC 4648): that of a token's parts, without padding as RFC 7515 section 2 asks, and the
-- two with padding.
use Rattle.std.specs.Prelude.{◌≡◌, ℕ, List, ◌++◌, length, replicate, codes}
use Rattle.base64.specs.Rfc4648.{encode_symbols, padding_len}
use Rattle.base64.specs.GeneralPurpose.{IsBytes}

-- the characters of the values 0 to 63 (RFC 4648 section 5)
abbrev pub url_characters : List ℕ
url_characters = codes "ABCDEFGHIJKLMNOPQRSTUVWXYZabcdefghijklmnopqrstuvwxyz0123456789-_"

-- The text is the part of a token that stands for these bytes: six bits a character, the spare bits
-- of the last one 0, no padding (RFC 7515 section 2, RFC 4648 sections 3.5 and 5).
abbrev pub IsPart : List ℕ → List ℕ → Type 0
IsPart text bytes = IsBytes bytes × (text ≡ encode_symbols url_characters bytes)

-- the same with `+` and `/` for the values 62 and 63 (RFC 4648 section 4)
abbrev pub standard_characters : List ℕ
standard_characters = codes "ABCDEFGHIJKLMNOPQRSTUVWXYZabcdefghijklmnopqrstuvwxyz0123456789+/"

-- the character `=`, as often as the last group lacks a character of four (RFC 4648 section 4)
abbrev pub padding : List ℕ → List ℕ
padding bytes = replicate (padding_len (length bytes)) 0x3d

-- The padded text of these bytes in the standard alphabet (RFC 4648 section 4).
abbrev pub IsStandardText : List ℕ → List ℕ → Type 0
IsStandardText text bytes =
    IsBytes bytes × (text ≡ encode_symbols standard_characters bytes ++ padding bytes)

-- The padded text of these bytes in the URL alphabet (RFC 4648 section 5).
abbrev pub IsUrlText : List ℕ → List ℕ → Type 0
IsUrlText text bytes = IsBytes bytes × (text ≡ encode_symbols url_characters bytes ++ padding bytes)
