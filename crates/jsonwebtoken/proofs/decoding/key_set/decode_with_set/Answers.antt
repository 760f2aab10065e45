use Rattle.jsonwebtoken.specs.Calls.{decoding_by_set}
use Rattle.jsonwebtoken.proofs.EachTest.{kept_with_more}
use Rattle.jsonwebtoken.proofs.decoding.key_set.decode_with_set.Goals as goal

pub returns-clause-more_keys : goal.returns-clause-more_keys
returns-clause-more_keys g c =
    let call = decoding_by_set g.P.CryptoProvider g.T.Claims c.args.provider.now c.args.token.now
    c.args.set.now.keys.items c.args.validation.now c.args.time in
    λ t p more. kept_with_more call t c.args.set.now.keys.items more p
