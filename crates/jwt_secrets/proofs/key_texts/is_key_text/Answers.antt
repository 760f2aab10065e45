use Rattle.std.proofs.Common.{sym, ◌∙◌}
use Rattle.std.proofs.lemmas.Bool.{false≢true}
use Rattle.jwt_secrets.specs.KeyTexts.{IsKey}
use Rattle.jwt_secrets.proofs.Keys.{answers, in_base64, no_key}
use Rattle.jwt_secrets.proofs.key_texts.is_key_text.Goals as goal

pub returns-in-Some-clause-ok : goal.returns-in-Some-clause-ok
returns-in-Some-clause-ok c =
    let other : IsKey c.args.secret.now → ⊥ = λ k. false≢true (sym c.if-branch.false ∙ c.in_ok-is_key.ensures.ok.1 k) in
    let stands = rw c.in-Some.is at c.in_ok-bytes.ensures.ok in
    answers c.is_key-in-Some.result (in_base64 c.args.secret.now c.in-Some.bytes.items c.as_slice.result.now other
    stands c.as_slice.ensures.value)
    c.is_key-in-Some.ensures.ok

pub returns-in-None-clause-ok : goal.returns-in-None-clause-ok
returns-in-None-clause-ok c =
    let other : IsKey c.args.secret.now → ⊥ = λ k. false≢true (sym c.if-branch.false ∙ c.in_ok-is_key.ensures.ok.1 k) in
    let none = rw c.in-None.is at c.in_ok-bytes.ensures.ok in
    (λ t. absurd (false≢true t), λ h. absurd (no_key c.args.secret.now other none h))
