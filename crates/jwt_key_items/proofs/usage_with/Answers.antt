use Rattle.std.proofs.Common.{◌∙◌, sym, rules}
use Rattle.std.proofs.lemmas.Bool.{false≢true}
use Rattle.jwt_key_items.specs.KeyItems.{IsForSignatures}
use Rattle.jwt_key_items.proofs.KeyLemmas.{none_verifies, some_verifies, not_blank, no_key_text}
use Rattle.jwt_key_items.proofs.usage_with.Goals as goal

pub returns-then-bits-eq0-clause-ok : goal.returns-then-bits-eq0-clause-ok
returns-then-bits-eq0-clause-ok c =
    let for_signatures : IsForSignatures c.args.jwk.now = search rules in (
      (c.args.key.now, c.requires),
      for_signatures,
      none_verifies c.args.jwk.now _ c.if-bits-eq0.true c.in_ok-bits.ensures.ok,
    )

pub returns-then-is_blank_key-clause-ok : goal.returns-then-is_blank_key-clause-ok
returns-then-is_blank_key-clause-ok c =
    let jwk = c.args.jwk.now in
    let for_signatures : IsForSignatures jwk = search rules in (
      (c.args.key.now, c.requires),
      for_signatures,
      some_verifies jwk _ c.if-bits-eq0.false c.in_ok-bits.ensures.ok,
      (c.args.key.now, c.requires, c.is_blank_key.ensures.0 c.if-is_blank_key.true),
    )

pub returns-then-branch-clause-ok : goal.returns-then-branch-clause-ok
returns-then-branch-clause-ok c =
    let jwk = c.args.jwk.now in
    let for_signatures : IsForSignatures jwk = search rules in (
      (c.args.key.now, c.requires),
      for_signatures,
      some_verifies jwk _ c.if-bits-eq0.false c.in_ok-bits.ensures.ok,
      not_blank jwk _ c.requires (λ b. false≢true (sym c.if-is_blank_key.false ∙ c.is_blank_key.ensures.1 b)),
      (c.args.key.now, c.requires, c.in_ok-has_key_text.ensures.ok.0 c.if-branch.true),
    )

pub returns-clause-ok : goal.returns-clause-ok
returns-clause-ok c =
    let jwk = c.args.jwk.now in
    let for_signatures : IsForSignatures jwk = search rules in (
      (
        (c.args.key.now, c.requires),
        for_signatures,
        some_verifies jwk _ c.if-bits-eq0.false c.in_ok-bits.ensures.ok,
        not_blank jwk _ c.requires (λ b. false≢true (sym c.if-is_blank_key.false ∙ c.is_blank_key.ensures.1 b)),
        no_key_text jwk _ c.requires
            (λ t. false≢true (sym c.if-branch.false ∙ c.in_ok-has_key_text.ensures.ok.1 t)),
      ),
      c.in_ok-bits.ensures.ok,
    )
