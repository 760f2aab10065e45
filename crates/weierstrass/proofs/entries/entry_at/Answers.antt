use Rattle.std.proofs.Common.{◌≡◌, ℕ, ◌/◌, ◌%◌, arith}
use Rattle.weierstrass.specs.declared.entries.Entry.{Entry}
use Rattle.weierstrass.specs.declared.entries.Sixteen.{Sixteen}
use Rattle.weierstrass.specs.private_clauses.Entries.{picked, part_of, entry_of}
use Rattle.weierstrass.proofs.entries.entry_at.Goals as goal

made : {F : Type 0} (t : Sixteen F) (digit k : ℕ) (P : Entry F) → digit / 4 ≡ k → P ≡ picked (part_of t k) (digit % 4)
    → P ≡ entry_of t digit
unfolding entry_of
made t digit k P e h = rw e h

pub returns-then-high-eq0 : goal.returns-then-high-eq0
returns-then-high-eq0 g c = made c.args.table.now c.args.digit 0 c.pick.result c.if-high-eq0.true c.pick.ensures

pub returns-then-high-eq1 : goal.returns-then-high-eq1
returns-then-high-eq1 g c = made c.args.table.now c.args.digit 1 c.pick-then-high-eq1.result c.if-high-eq1.true
    c.pick-then-high-eq1.ensures

pub returns-then-high-eq2 : goal.returns-then-high-eq2
returns-then-high-eq2 g c = made c.args.table.now c.args.digit 2 c.pick-then-high-eq2.result c.if-high-eq2.true
    c.pick-then-high-eq2.ensures

pub returns : goal.returns
returns g c = made c.args.table.now c.args.digit 3 c.pick-2.result (omega arith) c.pick-2.ensures
