use Rattle.std.proofs.Common.{inl}
use Rattle.std.proofs.lemmas.Result.{err_from_is_err_and}
use Rattle.jsonwebtoken.specs.Calls.{decoding_parts, Carries}
use Rattle.jsonwebtoken.specs.Jws.{parts_of}
use Rattle.jsonwebtoken.specs.private_clauses.Steps.{whole}
use Rattle.jsonwebtoken.specs.Tests.{jws_order}
use Rattle.jsonwebtoken.proofs.Exits.{exit, memory_of}
use Rattle.jsonwebtoken.proofs.jws.decode_by_steps.Goals as goal

pub returns-in_err-message : goal.returns-in_err-message
returns-in_err-message g c =
    let call = decoding_parts g.P.CryptoProvider g.T.Claims c.args.provider.now (parts_of c.args.token.now)
    c.args.key.now c.args.validation.now c.args.time in
    exit call jws_order whole (Carries call) {A = ⊥} _ _ c.from_residual.ensures.1 (λ none. absurd none)
    (inl (memory_of _ c.signed_message.result _ c.in_err-message.ensures c.signed_message.ensures.err))

pub returns-in_err-data : goal.returns-in_err-data
returns-in_err-data g c =
    let p = err_from_is_err_and c.from_residual-in_err-data.result c.from_residual-in_err-data.ensures.1 in
    let no = rw (c.as_bytes-2.ensures.value, c.as_bytes-3.ensures.value, c.as_bytes-4.ensures.value) at c.in_err-data.ensures in
    rw (p.1, p.2) no
