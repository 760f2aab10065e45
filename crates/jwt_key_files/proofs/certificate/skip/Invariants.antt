use Rattle.std.proofs.Common.{List, ℕ, drop}
use Rattle.jwt_key_files.specs.Certificates.{IsAfter}
use Rattle.jwt_key_files.proofs.certificate.skip.Given as goal

abbrev pub invariant-loop-tag : goal.invariant-loop-tag
invariant-loop-tag l = record {
  from : (r : List ℕ) → IsAfter (drop l.tag-index l.tags) l.rest r → IsAfter l.tags l.bytes r;
  to : (r : List ℕ) → IsAfter l.tags l.bytes r → IsAfter (drop l.tag-index l.tags) l.rest r;
}
