use Rattle.jwt_key_files.proofs.Numbers.{one_octet, all_read, too_large}
use Rattle.jwt_key_files.proofs.element.number.Goals as goal

pub loop-octet-preserved : goal.loop-octet-preserved
loop-octet-preserved c = one_octet _ _ _ c.loop-octet.octet-index c.loop-octet-test.true c.loop-octet.invariant

pub returns : goal.returns
returns c = all_read _ _ _ c.loop-octet.octet-index c.loop-octet-test.false c.loop-octet.invariant

pub returns-then-n-ge72057594037927936 : goal.returns-then-n-ge72057594037927936
returns-then-n-ge72057594037927936 c =
    too_large _ _ _ _ c.loop-octet.octet-index c.ranges.most.fits c.loop-octet-test.true c.if-n-ge72057594037927936.true
    c.loop-octet.invariant
