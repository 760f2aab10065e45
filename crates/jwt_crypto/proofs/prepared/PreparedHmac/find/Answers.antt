use Rattle.std.proofs.Common.{arith}
use Rattle.jwt_crypto.specs.HmacKeys.{algorithm_for}
use Rattle.jwt_crypto.proofs.PreparedKeys.{same_key, one_more, none_is}
use Rattle.jwt_crypto.proofs.prepared.PreparedHmac.find.Goals as goal

pub loop-key-preserved : goal.loop-key-preserved
loop-key-preserved c =
    one_more c.args.self.now.keys.items c.loop-key.key-index c.key-item.result (
      algorithm_for c.args.hash,
      c.args.secret.now,
    ) (omega arith) (rw (← c.deref-key-items.ensures.value) c.key-item.is)
    (λ e.
    let no-fit = c.if-is_for.false in
    let fits = c.is_for.ensures.1 (same_key c.key-item.result c.args.hash c.args.secret.now e) in
    cc)
    c.loop-key.invariant

pub returns-clause-found : goal.returns-clause-found
returns-clause-found c = (
  λ no. cc,
  λ p. absurd (none_is c.args.self.now.keys.items (algorithm_for c.args.hash, c.args.secret.now)
      (λ j d lt. c.loop-key.invariant j d (omega arith)) p),
)
