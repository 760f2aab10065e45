use Rattle.std.proofs.Common.{◌<◌, ◌^◌, ◌%◌, sym, subst, arith}
use Rattle.residues.specs.Bytes.{little_endian}
use Rattle.residues.proofs.Loads.{little_endian-lt}
use Rattle.edwards.specs.Edwards.{Point}
use Rattle.edwards.specs.Numbers.{numbers}
use Rattle.edwards.specs.Group.{IsPoint}
use Rattle.ed25519.specs.Ed25519.{p, d}
use Rattle.ed25519.specs.Elements.{whole}
use Rattle.ed25519.proofs.Encodings.{committed}
use Rattle.ed25519.proofs.Joints.{equation_by, IsPoint-negative}
use Rattle.ed25519.proofs.verification.is_commitment.Goals as goal

pub is_encoding-requires-clause-on_curve : goal.is_encoding-requires-clause-on_curve
is_encoding-requires-clause-on_curve c =
    let key : Point = numbers (λ x. whole x % p) c.args.key in
    (c.joint_multiple.ensures (subst (IsPoint p d) (sym c.negative.ensures) (IsPoint-negative key c.requires.key))).is_point

pub returns : goal.returns
returns c =
    let key : Point = numbers (λ x. whole x % p) c.args.key in
    let sum : Point = numbers (λ x. whole x % p) c.joint_multiple.result in
    let s = little_endian c.args.s.now in
    let k = little_endian c.args.challenge.now in
    let s_fits : s < 2 ^ 256 = rw c.requires.s at (little_endian-lt c.args.s.now (λ i. let h = c.type_inv.s i in omega arith)) in
    let k_fits : k < 2 ^ 256 =
    rw c.requires.challenge at (little_endian-lt c.args.challenge.now (λ i. let h = c.type_inv.challenge i in omega arith)) in
    let negative_is = subst (IsPoint p d) (sym c.negative.ensures) (IsPoint-negative key c.requires.key) in
    let joint = rw c.negative.ensures at (c.joint_multiple.ensures negative_is) in
    let all = committed c.args.bytes.now key sum s k
    (λ R on. equation_by key R sum s k c.requires.key on s_fits k_fits joint) in
    let is = c.is_encoding.ensures in
    (λ h. all.0 (is.0 h), λ h. is.1 (all.1 h))
