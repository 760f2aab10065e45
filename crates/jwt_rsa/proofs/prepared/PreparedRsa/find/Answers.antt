use Rattle.std.proofs.Common.{arith}
use Rattle.jwt_rsa.proofs.PreparedKeys.{same_key, one_more, none_is}
use Rattle.jwt_rsa.proofs.prepared.PreparedRsa.find.Goals as goal

pub loop-key-preserved : goal.loop-key-preserved
loop-key-preserved c =
    one_more c.args.self.now.keys.items c.loop-key.key-index c.key-item.result (c.args.n.now, c.args.e.now)
    (omega arith) (rw (← c.deref-key-items.ensures.value) c.key-item.is)
    (λ e.
    let no-fit = c.if-is_of.false in
    let fits = c.is_of.ensures.1 (same_key c.key-item.result c.args.n.now c.args.e.now e) in
    cc)
    c.loop-key.invariant

pub returns-clause-found : goal.returns-clause-found
returns-clause-found c = (
  λ no. cc,
  λ p. absurd (none_is c.args.self.now.keys.items (c.args.n.now, c.args.e.now)
      (λ j d lt. c.loop-key.invariant j d (omega arith)) p),
)
