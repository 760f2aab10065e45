use Rattle.std.proofs.Common.{rules}
use Rattle.std.proofs.lemmas.List.{map-append}
use Rattle.jwt_base.specs.Base64Url.{IsStandardText}
use Rattle.jwt_header.proofs.Each.{one_more, one_less}
use Rattle.jwt_header.proofs.certificates.certificate_bytes.Goals as goal

pub loop-text-preserved : goal.loop-text-preserved
loop-text-preserved c =
    let ts = c.args.texts.now in
    let i = c.loop-text.text-index in
    let reads : IsStandardText c.text-item.result c.in_ok-standard_bytes.field-0.items = search rules in
    record {
      so_far = rw (c.in_ok-push.ensures.items, map-append)
          (one_more IsStandardText ts i c.text-item.result _ c.in_ok-standard_bytes.field-0.items c.loop-text-test.true
          c.loop-text.invariant.so_far (rw (← c.text-item.is) reads));
      left = λ bs r. one_less IsStandardText ts i c.text-item.result c.loop-text-test.true (c.loop-text.invariant.left bs r);
    }
