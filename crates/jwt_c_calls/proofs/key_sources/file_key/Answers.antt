use Rattle.std.proofs.Common.{◌∙◌, ap, sym, ⊎_elim, inl, inr}
use Rattle.std.proofs.lemmas.Bool.{false≢true}
use Rattle.jwt_key_files.specs.Files.{IsJwkOfFile, IsLabelledCertificate}
use Rattle.jwt_c_calls.specs.KeySources.{IsNoFile, file_status}
use Rattle.jwt_c_calls.proofs.KeySources.{not_read, one_of}
use Rattle.jwt_c_calls.proofs.key_sources.file_key.Goals as goal

pub returns-in-Ok-clause-ok : goal.returns-in-Ok-clause-ok
returns-in-Ok-clause-ok c = one_of (IsJwkOfFile c.args.bytes.now) (IsNoFile c.args.bytes.now) c.in-Ok.jwk c.in-Ok.ensures.ok
    c.one_key.result c.one_key.ensures.ok

pub returns-in-Ok-clause-err : goal.returns-in-Ok-clause-err
returns-in-Ok-clause-err c = not_read (IsJwkOfFile c.args.bytes.now) (IsNoFile c.args.bytes.now) c.in-Ok.jwk
    c.in-Ok.ensures.ok c.one_key.result c.one_key.ensures.err

pub returns-in-Err-clause-err : goal.returns-in-Err-clause-err
returns-in-Err-clause-err c =
    let status = c.file_status.ensures ∙ ap file_status c.kind.ensures.kind in
    let unlabelled : ¬ IsLabelledCertificate c.args.bytes.now = λ h. false≢true (sym c.if-is_certificate.false ∙ c.is_certificate.ensures.1 h) in
    ⊎_elim (λ memory. inl (status ∙ ap file_status memory))
    (λ refused. inr (inl (inr (unlabelled, (_, refused, status))))) c.in-Err.ensures.err
