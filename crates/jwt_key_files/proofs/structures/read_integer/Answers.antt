use Rattle.jwt_key_files.proofs.Parts.{no_integer, no_number, a_number}
use Rattle.jwt_key_files.proofs.structures.read_integer.Goals as goal

pub returns-in_default : goal.returns-in_default
returns-in_default c = no_integer _ c.in_default.ensures

pub returns-in_default-unsigned_octets : goal.returns-in_default-unsigned_octets
returns-in_default-unsigned_octets c = no_number _ _ _ c.in-Some.ensures c.in_default-unsigned_octets.ensures

pub returns : goal.returns
returns c =
    (c.in-Some-unsigned_octets.ensures.0, a_number _ _ _ _ c.in-Some.ensures c.in-Some-unsigned_octets.ensures.1)
