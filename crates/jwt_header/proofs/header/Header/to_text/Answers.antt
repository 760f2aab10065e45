use Rattle.std.proofs.lemmas.Result.{IfOk-weaker}
use Rattle.jwt_base.proofs.WrittenTexts.{has_text}
use Rattle.jwt_header.specs.Header.{ReadsHeader, header_value}
use Rattle.jwt_header.specs.HeaderWritten.{normal_header}
use Rattle.jwt_header.proofs.header.Header.to_text.Goals as goal

pub returns-clause-ok : goal.returns-clause-ok
returns-clause-ok c =
    let reads = c.to_value.ensures.normal_form.reads_back _ c.in_ok-value.ensures.ok in
    IfOk-weaker c.value_text.result _ _ (λ text compact. has_text ReadsHeader header_value normal_header c.args.self.now
    _ text.items c.in_ok-value.ensures.ok reads compact) c.value_text.ensures.ok
