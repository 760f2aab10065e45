use Rattle.std.proofs.Common.{ℕ, ◌-◌, ◌*◌, length, subst, sym, ◌∙◌}
use Rattle.jwt_rsa.specs.Pss.{hash_len, HasSalt, IsFramed}
use Rattle.jwt_rsa.proofs.Masks.{digest_decides}
use Rattle.jwt_rsa.proofs.pss.is_consistent.Goals as goal

pub returns-clause-verdict : goal.returns-clause-verdict
returns-clause-verdict c =
    let h = c.args.hash in
    let em = c.args.em.now in
    let salt = c.in-Some.salt.now in
    let framed : IsFramed h c.args.kept em = c.is_framed.ensures.0 c.if-not-is_framed.false in
    let P : ℕ → Type 0 = λ z. HasSalt (length em - 2 * z - 2) c.deref.result.now salt in
    let has_salt : P (hash_len h) = subst P c.hash_len-size.ensures.exact c.in-Some.ensures.some in
    let decides = digest_decides h c.args.kept c.args.message.now em c.deref.result.now salt framed
    (c.deref.ensures.value ∙ c.in_ok-block.ensures.ok) has_salt in
    let is = c.deref-2.ensures.value ∙ c.in_ok-digest.ensures.ok in
    (λ yes. decides.0 (sym is ∙ c.holds_digest.ensures.0 yes), λ p. c.holds_digest.ensures.1 (is ∙ decides.1 p))
