use Rattle.std.proofs.Common.{◌≡◌, ℕ, ◌+◌, ◌-◌, List, [], ◌∷◌, ◌++◌, length, replicate, ap, ◌∙◌}
use Rattle.std.proofs.lemmas.List.{append_assoc}
use Rattle.jwt_rsa.specs.Pkcs1.{encoded, digest_info_of}
use Rattle.jwt_rsa.proofs.pkcs1.encode.Goals as goal

assembled : (P T a b c d : List ℕ) → a ≡ 0 ∷ 1 ∷ [] → b ≡ a ++ P → c ≡ b ++ (0 ∷ []) → d ≡ c ++ T
    → d ≡ (0 ∷ 1 ∷ P) ++ (0 ∷ T)
assembled P T a b c d pa pb pc pd =
    pd ∙ ap (λ z. z ++ T) pc ∙ ap (λ z. (z ++ (0 ∷ [])) ++ T) pb ∙ ap (λ z. ((z ++ P) ++ (0 ∷ [])) ++ T) pa
    ∙ append_assoc (0 ∷ 1 ∷ P) (0 ∷ []) T

pub returns-clause-ok : goal.returns-clause-ok
unfolding encoded
returns-clause-ok c =
    let P = c.in_ok-padding.padding.items in
    let T = c.in_ok-info.info.items in
    let is : T ≡ digest_info_of c.args.hash c.args.message.now = c.in_ok-info.ensures.ok in
    let few : c.saturating_sub.result ≡ c.args.count - (3 + length T) =
    c.saturating_sub.ensures ∙ ap (λ z. c.args.count - (3 + z)) (c.len.ensures ∙ c.in_ok-info.info.ok.0) in
    let filled : P ≡ replicate (c.args.count - (3 + length T)) 255 =
    c.in_ok-padding.ensures.items_if_clones_equal (λ y e. e) ∙ ap (λ z. replicate z 255) few in
    assembled P T _ _ _ _ c.in_ok-octets.ensures.items
    (c.in_ok-extend_from_slice.ensures.items ∙ ap (λ z. c.in_ok-octets.octets.items ++ z) c.deref.ensures.value)
    c.in_ok-push.ensures.items
    (c.in_ok-extend_from_slice-2.ensures.items ∙ ap (λ z. c.push.new.self.items ++ z) c.deref-2.ensures.value)
    ∙ ap (λ z. (0 ∷ 1 ∷ z) ++ (0 ∷ T)) filled
    ∙ ap (λ z. (0 ∷ 1 ∷ replicate (c.args.count - (3 + length z)) 255) ++ (0 ∷ z)) is
