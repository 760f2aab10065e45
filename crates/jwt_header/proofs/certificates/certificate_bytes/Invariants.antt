use Rattle.std.proofs.Common.{ℕ, List, take, drop, map}
use Rattle.std.specs.List.{AllZip}
use Rattle.jwt_base.specs.Base64Url.{IsStandardText}
use Rattle.jwt_header.proofs.certificates.certificate_bytes.Given as goal

abbrev pub invariant-loop-text : goal.invariant-loop-text
invariant-loop-text l = record {
  so_far : AllZip IsStandardText (take l.text-index l.texts) (map (λ b. b.items) l.certificates.items);
  left : (bs : List (List ℕ)) → AllZip IsStandardText l.texts bs → (more : List (List ℕ)) × AllZip IsStandardText
      (drop l.text-index l.texts) more;
}
