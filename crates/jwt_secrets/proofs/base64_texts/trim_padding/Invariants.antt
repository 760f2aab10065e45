use Rattle.std.proofs.Common.{◌≡◌, ◌+◌, ◌≤◌, ◌==◌, length, take}
use Rattle.std.specs.List.{suffix_len}
use Rattle.jwt_secrets.proofs.base64_texts.trim_padding.Given as goal

abbrev pub invariant-loop-count : goal.invariant-loop-count
invariant-loop-count l =
    (l.count ≤ length l.characters)
    × (l.count + suffix_len (λ byte. byte == 0x3d) l.characters ≡ length l.characters + suffix_len
    (λ byte. byte == 0x3d) (take l.count l.characters))

abbrev pub decreases-loop-count : goal.decreases-loop-count
decreases-loop-count l = l.count
