-- The providers of curves and the provider of all algorithms refuse and accept alike, where the former make a verifier.
use Rattle.std.proofs.Common.{◌≡◌, ◌↔◌, ℕ, List, None}
use Rattle.jwt_base.specs.declared.algorithms.Algorithm.{Algorithm}
use Rattle.jwt_base.specs.declared.algorithms.AlgorithmFamily.{AlgorithmFamily}
use Rattle.jwt_base.specs.declared.algorithms.AlgorithmFamily.TheVariants as family
use Rattle.jwt_curves.specs.CurveKeys as curve
use Rattle.jwt_keys.specs.Key.{Key}
use Rattle.jwt_standard.specs.StandardKeys as standard

pub made_alike : (f : AlgorithmFamily) (a : Algorithm) (k : Key) → curve.refusal_by f a k ≡ None
    → standard.refusal_by f a k ≡ None
made_alike family.Hmac a k none = cc
made_alike family.Rsa a k none = cc
made_alike family.Ec a k none = none
made_alike family.Ed a k none = none

pub accepts_alike : (f : AlgorithmFamily) (a : Algorithm) (k : Key) (m s : List ℕ) → curve.refusal_by f a k ≡ None
    → curve.AcceptsBy f a k m s ↔ standard.AcceptsBy f a k m s
accepts_alike family.Hmac a k m s none = cc
accepts_alike family.Rsa a k m s none = cc
accepts_alike family.Ec a k m s none = (λ h. h, λ h. h)
accepts_alike family.Ed a k m s none = (λ h. h, λ h. h)
