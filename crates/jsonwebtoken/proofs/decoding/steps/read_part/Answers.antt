use Rattle.std.proofs.Common.{ℕ, List}
use Rattle.jwt_base.specs.Base64Url.{IsPart}
use Rattle.jwt_base.specs.Kind as kind
use Rattle.jsonwebtoken.proofs.Exits.{finds}
use Rattle.jsonwebtoken.proofs.decoding.steps.read_part.Goals as goal

pub returns : goal.returns
returns c = finds c.args.test (λ b. IsPart c.args.part.now b.items) ((b : List ℕ) → ¬ IsPart c.args.part.now b) kind.Base64
    c.part_bytes.result _ c.with_test.ensures c.part_bytes.ensures.ok c.part_bytes.ensures.err
