use Rattle.jwt_key_files.proofs.Prefixes.{no_element_of_nil, no_element_of_tag, no_element_of_length}
use Rattle.jwt_key_files.proofs.Prefixes.{no_element_of_short, element_of_parts}
use Rattle.jwt_key_files.proofs.element.read.Goals as goal

pub returns-in_default : goal.returns-in_default
returns-in_default c = no_element_of_nil _ _ c.in_default.ensures

pub returns-then-first-tag : goal.returns-then-first-tag
returns-then-first-tag c = no_element_of_tag _ _ _ _ c.in-Some.ensures c.if-first-tag.true

pub returns-in_default-read_length : goal.returns-in_default-read_length
returns-in_default-read_length c = no_element_of_length _ _ _ _ c.in-Some.ensures c.in_default-read_length.ensures

pub returns-then-rest-length : goal.returns-then-rest-length
returns-then-rest-length c =
    no_element_of_short _ _ _ _ _ _ c.in-Some.ensures c.in-Some-read_length.ensures c.if-rest-length.true

pub returns : goal.returns
returns c =
    element_of_parts _ _ _ _ _ _ _ _ c.in-Some.ensures c.if-first-tag.false c.in-Some-read_length.ensures
    c.split_at.ensures.front_len c.split_at.ensures.by_index.0
