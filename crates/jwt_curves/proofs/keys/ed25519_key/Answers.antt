use Rattle.std.proofs.Common.{rules, sym}
use Rattle.jwt_curves.proofs.KeyLengths.{ed25519_length}
use Rattle.jwt_curves.proofs.keys.ed25519_key.Goals as goal

pub copy_from_slice-requires : goal.copy_from_slice-requires
copy_from_slice-requires c = sym (ed25519_length c.args.bytes.now (search rules))
