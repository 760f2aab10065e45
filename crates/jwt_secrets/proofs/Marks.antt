-- Where a mark stands in a text.
use Rattle.std.proofs.Common.{◌≡◌, ℕ, ◌+◌, List, ◌++◌, length, take, drop, ap, sym, ◌∙◌, arith, length-append}
use Rattle.std.proofs.lemmas.List.{take-append-drop}
use Rattle.std.proofs.lemmas.List.Prefix.{at_reads}
use Rattle.std.proofs.Math.Seq.{drop-append_seam}
use Rattle.memchr.specs.Find.{OccursAt, Nowhere}
use Rattle.memchr.proofs.lemmas.MatchLemmas.{OccursAt-split}
use Rattle.jwt_secrets.specs.KeyTexts.{Has}

pub found : (text mark : List ℕ) (k : ℕ) → OccursAt text mark k → Has text mark
found text mark k occurs = record {
  before = take k text;
  after = drop (k + length mark) text;
  stands = sym (take-append-drop k text) ∙ ap (λ (x : List ℕ). take k text ++ x) (OccursAt-split text mark k occurs);
}

occurs_in : (text mark : List ℕ) (h : Has text mark) → OccursAt text mark (length h.before)
occurs_in text mark h =
    let rest : drop (length h.before) text ≡ mark ++ h.after = ap (drop (length h.before)) h.stands
    ∙ drop-append_seam h.before (mark ++ h.after) in
    record {
      fits = omega (arith, ap length h.stands, length-append h.before (mark ++ h.after), length-append mark h.after);
      reads = at_reads 0 text mark (length h.before) h.after rest;
    }

pub missed : (text mark : List ℕ) → Nowhere (OccursAt text mark) 0 (length text + 1) → Has text mark → ⊥
missed text mark none h =
    let occurs = occurs_in text mark h in
    none (length h.before) (omega arith) (omega (arith, occurs.fits)) occurs
