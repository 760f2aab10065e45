use Rattle.jwt_example.proofs.published.publish.Goals as goal

pub returns-clause-ok : goal.returns-clause-ok
returns-clause-ok c =
    let ok = c.in_ok-thumbprint.ensures.ok in
    record {
      jwk = c.in_ok-jwk.jwk;
      id = c.from.result;
      is_public = c.in_ok-refuse_secret.ensures.ok;
      is_of_key = c.in_ok-jwk.ensures.ok;
      is_thumbprint = (ok.0, (ok.1.0, rw c.from.ensures ok.1.1));
      added = rw (← c.name.ensures) c.in_ok-push.ensures.items;
    }
