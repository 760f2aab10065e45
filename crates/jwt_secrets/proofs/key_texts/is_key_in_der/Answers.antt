use Rattle.std.proofs.Common.{inl, inr, sym, ◌∙◌}
use Rattle.std.proofs.lemmas.Bool.{false≢true}
use Rattle.jwt_secrets.proofs.Keys.{in_der}
use Rattle.jwt_secrets.proofs.key_texts.is_key_in_der.Goals as goal

pub returns-else-is_whole_key : goal.returns-else-is_whole_key
returns-else-is_whole_key c =
    let same = in_der c.args.bytes.now c.in-Some.content.now c.in-Some.ensures in (
      λ t. same.1 (inr (c.begins_key.ensures.0 t)),
      λ h. elim (same.0 h) [
        | inl whole ↦ absurd (false≢true (sym c.if-is_whole_key.false ∙ c.is_whole_key.ensures.1 whole))
        | inr begins ↦ c.begins_key.ensures.1 begins
      ],
    )
