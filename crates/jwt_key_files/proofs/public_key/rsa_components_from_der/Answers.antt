use Rattle.jwt_key_files.proofs.RsaNumbers.{the_components, no_components}
use Rattle.jwt_key_files.proofs.public_key.rsa_components_from_der.Goals as goal

pub returns-in_default-clause-components : goal.returns-in_default-clause-components
returns-in_default-clause-components c = no_components _ c.in_default.ensures

pub returns-clause-components : goal.returns-clause-components
returns-clause-components c = let e = c.in-Some.ensures in the_components _ _ _ e.0 e.1 e.2
