use Rattle.jwt_keys.proofs.decoding_key.DecodingKey.from_jwk.Goals as goal

pub returns-in-EllipticCurve-clause-err : goal.returns-in-EllipticCurve-clause-err
returns-in-EllipticCurve-clause-err c =
    rw (c.in-EllipticCurve.is) (rw (c.as_str.ensures, c.as_str-in-EllipticCurve.ensures) at c.from_ec_components.ensures.err)

pub returns-in-RSA-clause-err : goal.returns-in-RSA-clause-err
returns-in-RSA-clause-err c =
    rw (c.in-RSA.is) (rw (c.as_str-in-RSA.ensures, c.as_str-in-RSA-2.ensures) at c.from_rsa_components.ensures.err)

pub returns-in-OctetKey-clause-err : goal.returns-in-OctetKey-clause-err
returns-in-OctetKey-clause-err c = rw (c.in-OctetKey.is) (rw (c.as_str-in-OctetKey.ensures) at c.from_secret_part.ensures.err)

pub returns-in-OctetKeyPair-clause-err : goal.returns-in-OctetKeyPair-clause-err
returns-in-OctetKeyPair-clause-err c =
    rw (c.in-OctetKeyPair.is) (rw (c.as_str-in-OctetKeyPair.ensures) at c.from_ed_components.ensures.err)
