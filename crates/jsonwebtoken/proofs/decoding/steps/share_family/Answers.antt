use Rattle.jsonwebtoken.proofs.decoding.steps.share_family.Goals as goal

pub returns-in-None : goal.returns-in-None
returns-in-None c = rw c.in-None.is (rw c.family.ensures at c.are_all_of.ensures)
