use Rattle.jwt_key_files.specs.EcdsaSignatures.{ecdsa_sig_value}
use Rattle.jwt_key_files.specs.PublicKeys.{rsa_public_key}
use Rattle.jwt_key_files.proofs.signature.read_sig_value.Goals as goal

pub returns : goal.returns
unfolding ecdsa_sig_value rsa_public_key
returns c = c.read_rsa.ensures
