-- The textual encoding of keys, in its lax form between the lines that begin and end it (RFC 7468 section 3, `laxbase64text`).
use Rattle.std.specs.Prelude.{◌≡◌, ◌⊎◌, ℕ, ◌-◌, ◌<◌, List, [], ◌++◌, drop, filter, Bool, true, not, ◌==◌, ◌||◌}
use Rattle.std.specs.Prelude.{slice_index, codes}
use Rattle.jwt_base.specs.Base64Url.{IsStandardText}

-- LF or CR
abbrev pub IsLineBreak : (byte : ℕ) → Type 0
IsLineBreak byte = (byte ≡ 13) ⊎ (byte ≡ 10)

-- white space: space, tab, LF, vertical tab, form feed and CR (RFC 7468 section 3, `W`)
abbrev pub is_white : (byte : ℕ) → Bool
is_white byte = byte == 32 || byte == 9 || byte == 10 || byte == 11 || byte == 12 || byte == 13

-- the characters of a text without white space
unfoldable pub characters_of : (text : List ℕ) → List ℕ
characters_of text = filter (λ byte. not (is_white byte)) text

-- the text ends here, or white space follows
abbrev pub EndsLine : (text : List ℕ) → Type 0
EndsLine text = (text ≡ []) ⊎ (is_white (slice_index text 0) ≡ true)

-- the text is `-----END `, the label and `-----`, and then it ends or has white space
pub record IsClosed (label text : List ℕ) : Type 0 where
  pub after : List ℕ
  pub text_is : text ≡ codes "-----END " ++ (label ++ (codes "-----" ++ after))
  pub ends : EndsLine after

-- The text that follows `-----BEGIN ` is the rest of a block with this label, of these bytes, and any text. The characters
-- of the body without white space are the canonical base64 text of the bytes (RFC 4648 section 4).
pub record IsBlock (label block bytes : List ℕ) : Type 0 where
  pub body : List ℕ
  pub end : List ℕ
  pub opens : block ≡ label ++ (codes "-----" ++ (body ++ end))
  pub base64 : IsStandardText (characters_of body) bytes
  pub closes : IsClosed label end

-- the text begins with the mark of its byte order, in UTF-8
pub record IsMarked (text : List ℕ) : Type 0 where
  pub first : slice_index text 0 ≡ 0xef
  pub second : slice_index text 1 ≡ 0xbb
  pub third : slice_index text 2 ≡ 0xbf

-- a line of the text begins at this place, the first one perhaps after a mark of the byte order
abbrev pub StartsLine : (text : List ℕ) (place : ℕ) → Type 0
StartsLine text place =
    (place ≡ 0) ⊎ (IsLineBreak (slice_index text (place - 1)) ⊎ ((place ≡ 3) × IsMarked text))

-- at this place a line begins with `-----BEGIN `, and this is the text after that
pub record Begins (text : List ℕ) (place : ℕ) (block : List ℕ) : Type 0 where
  pub starts_line : StartsLine text place
  pub mark : drop place text ≡ codes "-----BEGIN " ++ block

-- and no line before does
pub record IsFirst (text block : List ℕ) : Type 0 where
  pub place : ℕ
  pub begins : Begins text place block
  pub first : (k : ℕ) → k < place → (b : List ℕ) → ¬ Begins text k b
