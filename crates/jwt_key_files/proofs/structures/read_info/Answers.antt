use Rattle.jwt_key_files.proofs.Parts.{no_info, no_algorithm, no_bits, no_octets, unused_bits, an_info}
use Rattle.jwt_key_files.proofs.structures.read_info.Goals as goal

pub returns-in_default : goal.returns-in_default
returns-in_default c = no_info _ c.in_default.ensures

pub returns-in_default-read : goal.returns-in_default-read
returns-in_default-read c = no_algorithm _ _ c.in-Some.ensures c.in_default-read.ensures

pub returns-in_default-read_all : goal.returns-in_default-read_all
returns-in_default-read_all c = no_bits _ _ _ _ c.in-Some.ensures c.in-Some-read.ensures c.in_default-read_all.ensures

pub returns-in_default-next : goal.returns-in_default-next
returns-in_default-next c =
    no_octets _ _ _ _ _ c.in-Some.ensures c.in-Some-read.ensures c.in-Some-read_all.ensures c.in_default-next.ensures

pub returns-then-unused-ne0 : goal.returns-then-unused-ne0
returns-then-unused-ne0 c =
    unused_bits _ _ _ _ _ _ _ c.in-Some.ensures c.in-Some-read.ensures c.in-Some-read_all.ensures c.in-Some-next.ensures
    c.if-unused-ne0.true

pub returns : goal.returns
returns c =
    an_info _ _ _ _ _ _ _ c.in-Some.ensures c.in-Some-read.ensures c.in-Some-read_all.ensures c.in-Some-next.ensures
    c.if-unused-ne0.false
