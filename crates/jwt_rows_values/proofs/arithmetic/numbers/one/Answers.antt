use Rattle.std.proofs.Common.{◌≡◌, ◌∙◌, [], ◌∷◌, refl}
use Rattle.std.proofs.lemmas.Result.{IfOk-weaker}
use Rattle.modular.specs.Octets.{os2ip}
use Rattle.jwt_rows_values.proofs.arithmetic.numbers.one.Goals as goal

one_octet : os2ip (1 ∷ []) ≡ 1
unfolding os2ip
one_octet = refl

pub returns : goal.returns
returns c = IfOk-weaker c.from_octets.result (λ n. n ≡ os2ip (1 ∷ [])) (λ n. n ≡ 1) (λ n e. e ∙ one_octet) c.from_octets.ensures
