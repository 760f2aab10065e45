-- The sameness of the values of an enum without fields, which its derived `==` tests, and the bytes
-- that its derived `hash` feeds.
use Rattle.std.specs.Prelude.{◌≡◌, pos}
use denote.Enum.Bare.{Bare, sameb, same_true, true_same}
use denote.Enum.Declared.{Declared, tag_of}
use Rattle.std.specs.Bool.{Decides}
use Rattle.std.specs.Hash.{HashWrites, isize}

pub variant_decides : (T : Declared) → Bare T.parts → (a b : T.D) → Decides (sameb T a b) (a ≡ b)
variant_decides T bare a b = (same_true T bare a b, true_same T a b)

-- the place among the variants
abbrev pub variant_fed : (T : Declared) → T.D → HashWrites
variant_fed T a = isize (pos (tag_of T a))
