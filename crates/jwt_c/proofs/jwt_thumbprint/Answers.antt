use Rattle.std.proofs.Common.{◌∙◌, refl, subst, sym}
use Rattle.jwt_c_calls.specs.Contents.{keys_in}
use Rattle.jwt_c_calls.specs.Held.{LeavesThumbprint, key_held}
use Rattle.jwt_c.proofs.jwt_thumbprint.Goals as goal

pub returns-in-None-clause-thumbprint : goal.returns-in-None-clause-thumbprint
returns-in-None-clause-thumbprint c =
    subst (λ h. LeavesThumbprint h (key_held (keys_in c.args.keys.now.held) c.args.at) 6 0 c.args.room.now c.args.room.now)
    (sym c.in-None.is ∙ c.numbered_hash.ensures) (record { number = refl; none = refl; room = refl })
