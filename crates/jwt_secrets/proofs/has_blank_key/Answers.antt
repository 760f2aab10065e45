use Rattle.std.proofs.Common.{◌≡◌, ◌∙◌, ◌<◌, ◌≤◌, List, length, get_or, subst, sym}
use Rattle.std.specs.List.{All}
use Rattle.std.proofs.lemmas.Bool.{false≢true}
use Rattle.std.proofs.lemmas.List.{take_all}
use Rattle.std.proofs.lemmas.List.Elements.{All-more}
use Rattle.jwt_keys.specs.declared.jwk.Jwk.{Jwk}
use Rattle.jwt_secrets.specs.Blank.{IsBlankJwk}
use Rattle.jwt_secrets.proofs.has_blank_key.Goals as goal

pub loop-jwk-preserved : goal.loop-jwk-preserved
loop-jwk-preserved c =
    let keys = c.args.set.now.keys.items in
    let i = c.loop-jwk.jwk-index in
    let jwk = c.jwk-item.result in
    let within : i < length keys = subst (λ (l : List Jwk). i < length l) c.deref-jwk-items.ensures.value
    c.loop-jwk-test.true in
    let is : jwk ≡ get_or keys i jwk = subst (λ (l : List Jwk). jwk ≡ get_or l i jwk) c.deref-jwk-items.ensures.value
    c.jwk-item.is in
    let this : ¬ IsBlankJwk jwk = λ b. absurd (false≢true (sym c.if-branch.false ∙ c.in_ok-is_blank_jwk.ensures.ok.1 b)) in
    All-more (λ k. ¬ IsBlankJwk k) keys i jwk within c.loop-jwk.invariant (subst (λ (k : Jwk). ¬ IsBlankJwk k) is this)

pub returns-clause-ok : goal.returns-clause-ok
returns-clause-ok c =
    let keys = c.args.set.now.keys.items in
    let past : length keys ≤ c.loop-jwk.jwk-index =
    subst (λ (l : List Jwk). length l ≤ c.loop-jwk.jwk-index) c.deref-jwk-items.ensures.value c.loop-jwk-test.false in
    let none : All (λ k. ¬ IsBlankJwk k) keys =
    subst (λ (l : List Jwk). All (λ k. ¬ IsBlankJwk k) l) (take_all c.loop-jwk.jwk-index keys past) c.loop-jwk.invariant in
    (λ t. absurd (false≢true t), λ b. absurd (none b.0 b.1 b.2 (subst IsBlankJwk (sym b.3) b.4)))
