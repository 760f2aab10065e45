use Rattle.jwt_key_files.proofs.Certificates.{on_after, back_after, stuck, end_at}
use Rattle.jwt_key_files.proofs.certificate.skip.Goals as goal

pub returns-in_default : goal.returns-in_default
returns-in_default c = λ r h. stuck _ _ r c.loop-tag.tag-index c.loop-tag-test.true c.in_default.ensures
    (c.loop-tag.invariant.to r h)

pub loop-tag-preserved : goal.loop-tag-preserved
loop-tag-preserved c = record {
  from = λ r h. c.loop-tag.invariant.from r
      (back_after _ _ _ _ r c.loop-tag.tag-index c.loop-tag-test.true c.in-Some.ensures h);
  to = λ r h. on_after _ _ _ _ r c.loop-tag.tag-index c.loop-tag-test.true c.in-Some.ensures (c.loop-tag.invariant.to r h);
}

pub returns : goal.returns
returns c = c.loop-tag.invariant.from _ (end_at _ _ c.loop-tag.tag-index c.loop-tag-test.false)
