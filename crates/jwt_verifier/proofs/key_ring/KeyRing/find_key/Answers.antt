use Rattle.std.proofs.Common.{◌≡◌, ap, subst}
use Rattle.jsonwebtoken.specs.Finder.{FindsKey}
use Rattle.jwt_verifier.specs.RingFound.{found_key}
use Rattle.jwt_verifier.specs.RingValue.{Ring}
use Rattle.jwt_verifier.specs.Verifying.{source_of}
use Rattle.jwt_verifier.specs.declared.keys.Keys.{Keys}
use Rattle.jwt_verifier.proofs.key_ring.KeyRing.find_key.Goals as goal

pub returns-clause-found : goal.returns-clause-found
returns-clause-found c =
    let same : c.self.inside.keys ≡ c.args.self.now.keys = ap (λ (r : Ring). r.keys) c.self.view_is in
    subst (λ (k : Keys). FindsKey (source_of k) found_key c.args.header.now c.find_in.result) same c.find_in.ensures.found
