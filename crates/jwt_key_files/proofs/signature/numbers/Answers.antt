use Rattle.std.proofs.Common.{inl, inr}
use Rattle.jwt_key_files.proofs.Pairs.{too_long}
use Rattle.jwt_key_files.proofs.signature.numbers.Goals as goal
use Rattle.jwt_key_files.proofs.signature.numbers.Goals.{then-r-size-via-then-r-size, then-r-size-via-else-r-size+then-s-size}

pub returns-then-r-size-clause-err : goal.returns-then-r-size-clause-err
returns-then-r-size-clause-err c =
    let e = c.in-Some.ensures in
    inr (
      c.new_error-then-r-size.ensures.kind,
      too_long _ _ _ _ e.0 e.1 e.2 (elim c.then-r-size.branch [
        | then-r-size-via-then-r-size w ↦ inl w.if-r-size.true
        | then-r-size-via-else-r-size+then-s-size w ↦ inr w.if-s-size.true
      ]),
    )
