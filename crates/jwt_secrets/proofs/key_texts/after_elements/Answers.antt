use Rattle.std.proofs.Common.{refl}
use Rattle.jwt_secrets.proofs.Elements.{one_more, none_more, after_all}
use Rattle.jwt_secrets.proofs.key_texts.after_elements.Goals as goal

pub returns-in_default : goal.returns-in_default
returns-in_default c =
    none_more c.args.tags.now c.args.bytes.now c.loop-tag.rest.now c.loop-tag.tag-index c.loop-tag-test.true
    c.in_default.ensures c.loop-tag.invariant

pub loop-tag-preserved : goal.loop-tag-preserved
loop-tag-preserved c =
    one_more c.args.tags.now c.args.bytes.now c.loop-tag.rest.now _ _ c.loop-tag.tag-index c.loop-tag-test.true
    c.in-Some.ensures c.loop-tag.invariant

pub returns : goal.returns
returns c =
    (after_all c.args.tags.now c.args.bytes.now c.loop-tag.rest.now c.loop-tag.tag-index c.loop-tag-test.false
    c.loop-tag.invariant c.loop-tag.rest.now).1 refl
