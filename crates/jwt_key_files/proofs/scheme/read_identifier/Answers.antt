use Rattle.jwt_key_files.specs.declared.scheme.Scheme.TheVariants as scheme
use Rattle.jwt_key_files.proofs.Identifiers.{is_identifier, not_identifier, no_identifier}
use Rattle.jwt_key_files.proofs.scheme.read_identifier.Goals as goal

pub returns-then-eq : goal.returns-then-eq
returns-then-eq c = is_identifier scheme.Rsa _ _ _ c.eq.ensures c.as_slice.ensures c.if-eq.true

pub returns-then-eq-2 : goal.returns-then-eq-2
returns-then-eq-2 c = is_identifier scheme.P256 _ _ _ c.eq-2.ensures c.as_slice-2.ensures c.if-eq-2.true

pub returns-then-eq-3 : goal.returns-then-eq-3
returns-then-eq-3 c = is_identifier scheme.P384 _ _ _ c.eq-3.ensures c.as_slice-3.ensures c.if-eq-3.true

pub returns-then-eq-4 : goal.returns-then-eq-4
returns-then-eq-4 c = is_identifier scheme.Ed25519 _ _ _ c.eq-4.ensures c.as_slice-4.ensures c.if-eq-4.true

pub returns : goal.returns
returns c =
    no_identifier c.args.content.now
    (not_identifier scheme.Rsa _ _ _ c.eq.ensures c.as_slice.ensures c.if-eq.false)
    (not_identifier scheme.P256 _ _ _ c.eq-2.ensures c.as_slice-2.ensures c.if-eq-2.false)
    (not_identifier scheme.P384 _ _ _ c.eq-3.ensures c.as_slice-3.ensures c.if-eq-3.false)
    (not_identifier scheme.Ed25519 _ _ _ c.eq-4.ensures c.as_slice-4.ensures c.if-eq-4.false)
