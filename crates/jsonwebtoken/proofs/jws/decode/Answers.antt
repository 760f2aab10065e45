use Rattle.std.proofs.Common.{◌≡◌, refl}
use Rattle.std.proofs.lemmas.Result.{IfOk-weaker}
use Rattle.jsonwebtoken.specs.Calls.{decoding_parts, Carries}
use Rattle.jsonwebtoken.specs.Jws.{parts_of}
use Rattle.jsonwebtoken.specs.Order.{Passes}
use Rattle.jsonwebtoken.specs.Tests.{Parts, Separate, Contents, token_tests, jws_order}
use Rattle.jsonwebtoken.proofs.EachTest.{decides, same_answer}
use Rattle.jsonwebtoken.proofs.Exits.{without}
use Rattle.jsonwebtoken.proofs.LawsOf.{agree, moments, looser, fixes, key_fits, one_form}
use Rattle.jsonwebtoken.proofs.jws.decode.Goals as goal

pub returns-clause-decided : goal.returns-clause-decided
returns-clause-decided g c =
    let call = decoding_parts g.P.CryptoProvider g.T.Claims c.args.provider.now (parts_of c.args.token.now)
    c.args.key.now c.args.validation.now c.args.time in
    without (token_tests call) jws_order (Carries call) c.decode_by_steps.result _ c.without_test.ensures
    (decides call jws_order refl (Carries call) c.decode_by_steps.result c.decode_by_steps.ensures
    (same_answer call jws_order refl refl (λ r. r.header) (λ r v. g.T.Claims.reads v r.claims)))

pub returns-clause-family : goal.returns-clause-family
returns-clause-family g c =
    let call = decoding_parts g.P.CryptoProvider g.T.Claims c.args.provider.now (parts_of c.args.token.now)
    c.args.key.now c.args.validation.now c.args.time in
    let decided =
    without (token_tests call) jws_order (Carries call) c.decode_by_steps.result _ c.without_test.ensures
    (decides call jws_order refl (Carries call) c.decode_by_steps.result c.decode_by_steps.ensures
    (same_answer call jws_order refl refl (λ r. r.header) (λ r v. g.T.Claims.reads v r.claims))) in
    IfOk-weaker _ _ _ (λ r (a : (t : Contents) × Passes (token_tests call) jws_order t
    × ((t.header ≡ r.header) × g.T.Claims.reads t.payload_value r.claims)).
    rw (← a.2.0) (key_fits call jws_order refl (g.met.P.CryptoProvider.same_family c.args.provider.now) a.0 a.1))
    decided.accepted

pub returns-clause-laws : goal.returns-clause-laws
returns-clause-laws g c =
    let call = decoding_parts g.P.CryptoProvider g.T.Claims c.args.provider.now (parts_of c.args.token.now)
    c.args.key.now c.args.validation.now c.args.time in
    record {
      family = key_fits call jws_order refl (g.met.P.CryptoProvider.same_family c.args.provider.now);
      moments = moments call jws_order refl refl refl (λ t m. (λ p. p, λ p. p));
      looser = looser call jws_order;
      one_text = fixes call jws_order Parts Separate (parts_of c.args.token.now) refl one_form refl (λ x w m t u p q h. refl);
    }

pub returns-clause-agrees : goal.returns-clause-agrees
returns-clause-agrees g c =
    let call = decoding_parts g.P.CryptoProvider g.T.Claims c.args.provider.now (parts_of c.args.token.now)
    c.args.key.now c.args.validation.now c.args.time in
    λ p. agree call p
