use Rattle.std.proofs.Common.{inl, inr}
use Rattle.jwt_key_files.proofs.certificate.from_key.Goals as goal

pub returns : goal.returns
returns c = λ rest h. elim h [ inl a ↦ c.in_default.ensures rest a | inr b ↦ c.in_default-skip.ensures rest b ]
