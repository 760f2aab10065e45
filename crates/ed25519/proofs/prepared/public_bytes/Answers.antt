use Rattle.ed25519.proofs.prepared.public_bytes.Goals as goal

pub returns-clause-is_key : goal.returns-clause-is_key
returns-clause-is_key c = c.args.key.now.is_key
