use Rattle.std.proofs.Common.{◌≡◌, ℕ, List, IfOk, MatchOption, subst, ap, ◌∙◌}
use Rattle.jwt_secrets.specs.Base64Texts.{characters, unpadded, StandsFor}
use Rattle.jwt_secrets.proofs.base64_texts.base64_bytes.Goals as goal

pub returns-clause-ok : goal.returns-clause-ok
returns-clause-ok c =
    let digits : c.trim_padding.result.now ≡ unpadded (characters c.args.text.now) =
    c.trim_padding.ensures ∙ ap unpadded (c.as_slice.ensures.value ∙ c.in_ok-characters.ensures.ok) in
    subst (λ (ds : List ℕ). IfOk c.digit_bytes.result (λ o. MatchOption o ((b : List ℕ) → ¬ StandsFor ds b)
    (λ b. StandsFor ds b.items)))
    digits c.digit_bytes.ensures.ok
