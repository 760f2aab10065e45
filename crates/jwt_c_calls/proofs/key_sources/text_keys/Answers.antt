use Rattle.std.proofs.Common.{◌∙◌, sym, ⊎_elim}
use Rattle.std.proofs.lemmas.Bool.{false≢true}
use Rattle.jwt_c_calls.proofs.KeySources.{file_text, file_refused, not_json}
use Rattle.jwt_c_calls.proofs.key_sources.text_keys.Goals as goal

pub returns-clause-ok : goal.returns-clause-ok
returns-clause-ok c = file_text c.args.bytes.now
    (not_json c.args.bytes.now c.in-Err.refused (λ m. false≢true (sym c.if-is_memory.false ∙ c.is_memory.ensures.1 m))
    c.in-Err.ensures.err) c.file_key.result c.file_key.ensures.ok

pub returns-clause-err : goal.returns-clause-err
returns-clause-err c = file_refused c.args.bytes.now
    (not_json c.args.bytes.now c.in-Err.refused (λ m. false≢true (sym c.if-is_memory.false ∙ c.is_memory.ensures.1 m))
    c.in-Err.ensures.err) c.file_key.result c.file_key.ensures.err
