use Rattle.std.proofs.Common.{◌≡◌, suc, ◌-◌, ◌≤◌, length, drop, ◌∙◌, arith}
use Rattle.std.proofs.lemmas.List.{take_all, length-drop}
use Rattle.jwt_rsa.proofs.Lowest.{fits_without_front, too_large}
use Rattle.jwt_rsa.proofs.pss.lowest_octets.Goals as goal

pub returns-then-octets-ne0-clause-none : goal.returns-then-octets-ne0-clause-none
returns-then-octets-ne0-clause-none c = λ x e small.
    let more : length c.args.octets.now ≡ suc c.args.count = omega arith in
    too_large x c.args.count c.args.octets.now more e c.if-octets-ne0.true small

pub returns-clause-some : goal.returns-clause-some
returns-clause-some c = λ x e small.
    let xs = c.args.octets.now in
    let more : length xs ≡ suc c.args.count = omega arith in
    let p = fits_without_front x c.args.count xs more e small c.if-octets-ne0.false in
    let few : length (drop 1 xs) ≤ length xs - 1 = rw (length-drop 1 xs) (omega arith) in
    (p.0, take_all (length xs - 1) (drop 1 xs) few ∙ p.1)
