use Rattle.jwt_key_files.proofs.Parts.{no_rsa, no_modulus, no_exponent, no_end, an_rsa_key}
use Rattle.jwt_key_files.proofs.structures.read_rsa.Goals as goal

pub returns-in_default : goal.returns-in_default
returns-in_default c = no_rsa _ c.in_default.ensures

pub returns-in_default-read_integer : goal.returns-in_default-read_integer
returns-in_default-read_integer c = no_modulus _ _ c.in-Some.ensures c.in_default-read_integer.ensures

pub returns-in_default-read_integer-2 : goal.returns-in_default-read_integer-2
returns-in_default-read_integer-2 c =
    no_exponent _ _ _ _ c.in-Some.ensures c.in-Some-read_integer.ensures.1 c.in_default-read_integer-2.ensures

pub returns-then-rest-gt0 : goal.returns-then-rest-gt0
returns-then-rest-gt0 c =
    no_end _ _ _ _ _ _ c.in-Some.ensures c.in-Some-read_integer.ensures.1 c.in-Some-read_integer-2.ensures.1 c.if-rest-gt0.true

pub returns : goal.returns
returns c = (
  c.in-Some-read_integer.ensures.0,
  c.in-Some-read_integer-2.ensures.0,
  an_rsa_key _ _ _ _ _ _ c.in-Some.ensures c.in-Some-read_integer.ensures.1 c.in-Some-read_integer-2.ensures.1
      c.if-rest-gt0.false,
)
