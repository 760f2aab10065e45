use Rattle.std.proofs.Common.{◌≡◌, ◌-◌, ◌++◌, ℕ, List, length, take, replicate, subst, sym, ◌∙◌}
use Rattle.jwt_base.specs.Base64Url.{IsPart}
use Rattle.jwt_secrets.specs.Base64Texts.{StandsFor}
use Rattle.jwt_secrets.proofs.Digits.{stand_for}
use Rattle.jwt_secrets.proofs.base64_texts.digit_bytes.Goals as goal

pub returns-clause-ok : goal.returns-clause-ok
returns-clause-ok c =
    let digits = c.args.digits.now in
    let all = c.in-Some-2.bytes.items in
    let text : c.as_slice.result.now ≡ digits ++ replicate c.in-Some.count 0x41 = c.as_slice.ensures.value
    ∙ c.in_ok-groups.ensures.ok in
    let part = rw c.in-Some-2.is at c.in_ok-bytes.ensures.ok in
    let stands = stand_for digits all c.in-Some.count c.in-Some.ensures.0 c.in-Some.ensures.1
    (subst (λ (t : List ℕ). IsPart t all) text part) in
    let left : c.truncate.new.self.items ≡ take (length all - c.in-Some.count) all = cc in
    subst (StandsFor digits) (sym left) stands
