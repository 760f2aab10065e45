-- The request that a command stands for.
use Rattle.jwt_tool_command.specs.Words.{Request, ForHeader, ForThumbprint, ForToken, ForClaims, ForClaimsBySet}
use Rattle.jwt_tool_command.specs.declared.command.Command.{Command}
use Rattle.jwt_tool_command.specs.declared.command.Command.TheVariants.{Header, Thumbprint, Encode, Decode, DecodeWithSet}

abbrev pub asked : Command → Request
asked Header = ForHeader
asked (Thumbprint hash) = ForThumbprint hash
asked (Encode algorithm secret) = ForToken algorithm secret.now
asked (Decode algorithm secret time) = ForClaims algorithm secret.now time
asked (DecodeWithSet algorithm set time) = ForClaimsBySet algorithm set.now time
