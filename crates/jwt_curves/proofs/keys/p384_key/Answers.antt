use Rattle.std.proofs.Common.{rules, sym}
use Rattle.jwt_curves.proofs.KeyLengths.{p384_length}
use Rattle.jwt_curves.proofs.keys.p384_key.Goals as goal

pub copy_from_slice-requires : goal.copy_from_slice-requires
copy_from_slice-requires c = sym (p384_length c.args.bytes.now (search rules))
