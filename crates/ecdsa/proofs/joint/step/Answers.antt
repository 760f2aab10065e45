use Rattle.ecdsa.proofs.joint.step.Goals as goal

pub returns : goal.returns
returns g c = λ P m n t h. c.add_of_base.ensures P _ _ (c.add_of_other.ensures P _ _ t (c.sixteenfold.ensures P m n h))
