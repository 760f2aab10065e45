-- The calls that issue tokens, as the contracts speak of them: the arguments of an entry point,
-- with the relations of its provider and its type of claims.
use Rattle.std.specs.Prelude.{Option, option_map}
use Rattle.std.specs.Borrow.{Bor}
use Rattle.jwt_base.specs.declared.json.claims.Claims.{Ghosts as ClaimsOf}
use Rattle.jwt_header.specs.declared.header.Header.{Header}
use Rattle.jwt_keys.specs.Key.{SecretKey}
use Rattle.jwt_keys.specs.declared.provider.CryptoProvider.{Ghosts as ProviderOf}
use Rattle.jsonwebtoken.specs.Issue.{Issue, Payload, WrittenAs, payload_of, issuing}

module _ {P S V T : Type 0} (provider : ProviderOf P S V) (claims : ClaimsOf T) where
  -- a call that issues a token
  abbrev pub issuing_by : P → Header → Payload → SecretKey → Issue
  issuing_by p header payload key =
      issuing header payload key
      (provider.signer_refusal p) (provider.sign_refusal p) (provider.signs p)

  -- the call of `encode`
  abbrev pub encoding : P → Header → T → SecretKey → Issue
  encoding p header c key = issuing_by p header (WrittenAs (claims.written c)) key

  -- the call of `jws::encode`
  abbrev pub encoding_parts : P → Header → Option (Bor T) → SecretKey → Issue
  encoding_parts p header c key =
      issuing_by p header (payload_of (option_map (λ d. claims.written d.now) c)) key
