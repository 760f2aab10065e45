use Rattle.std.proofs.Common.{rules, sym}
use Rattle.jwt_curves.proofs.KeyLengths.{p256_length}
use Rattle.jwt_curves.proofs.keys.p256_key.Goals as goal

pub copy_from_slice-requires : goal.copy_from_slice-requires
copy_from_slice-requires c = sym (p256_length c.args.bytes.now (search rules))
