use Rattle.jwt_secrets.proofs.Elements.{GoesOn}
use Rattle.jwt_secrets.proofs.key_texts.after_elements.Given as goal

abbrev pub invariant-loop-tag : goal.invariant-loop-tag
invariant-loop-tag l = GoesOn l.tags l.bytes l.tag-index l.rest
