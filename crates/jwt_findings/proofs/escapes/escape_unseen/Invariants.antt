use Rattle.std.proofs.Common.{◌≡◌, ◌++◌, IsUtf8, string_bytes}
use Rattle.std.specs.Str.Iter.{chars_rest}
use Rattle.jwt_findings.specs.Escapes.{escaped}
use Rattle.jwt_findings.proofs.escapes.escape_unseen.Given as goal

abbrev pub invariant-loop-character : goal.invariant-loop-character
invariant-loop-character l = IsUtf8 (chars_rest l.character-iterator)
    × (string_bytes l.written ++ escaped (chars_rest l.character-iterator) ≡ escaped (string_bytes l.fn.text))
