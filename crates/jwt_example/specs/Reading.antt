-- A token that carries a session.
use Rattle.std.specs.Prelude.{ℕ, List}
use Rattle.jwt_keys.specs.declared.jwk.Jwk.{Jwk}
use Rattle.jwt_validation.specs.Options.{Options}
use Rattle.jsonwebtoken.specs.ByHmac.{decoding_by_hmac}
use Rattle.jsonwebtoken.specs.Tests.{Call, InSet}
use Rattle.jwt_example.specs.Session.{ReadsSession}
use Rattle.jwt_example.specs.declared.session.Session.{Session}

-- the call of `decode_with_set` by the provider of HMAC, whose claims are a session
abbrev pub reading_session : List ℕ → List Jwk → Options → ℕ → Call Session
reading_session text keys options time =
    decoding_by_hmac ReadsSession text (InSet keys) options time
