use Rattle.std.proofs.Common.{◌≡◌, ◌||◌}
use Rattle.std.specs.HashSet.{contains_text}
use Rattle.std.specs.Str.{bytes_eq}
use Rattle.std.specs.List.{list_any}
use Rattle.std.specs.String.{string_bytes}
use Rattle.jwt_validation.specs.declared.claims.Name.{Name}
use Rattle.jwt_validation.specs.ClaimRules.{text}
use Rattle.jwt_validation.specs.private_clauses.ClaimsSeen.{requires_claim}
use Rattle.jwt_validation.proofs.claims.RequiredClaims.of.Given as goal

-- a name was seen, or is among those that are left
abbrev pub invariant-loop-name : goal.invariant-loop-name
invariant-loop-name l =
    (n : Name) → (requires_claim l.required n || list_any (λ k. bytes_eq (text n) (string_bytes k)) l.name-iterator)
    ≡ contains_text l.names (text n)
