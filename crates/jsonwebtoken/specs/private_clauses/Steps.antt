-- For private clauses: what a step of a call shows, and what it knows.
use Rattle.std.specs.Prelude.{◌≡◌, ℕ, List, [], ◌∷◌, Option, Result, Ok, Err}
use Rattle.serde_json.specs.Data.{Data, null, no_members}
use Rattle.jwt_base.specs.Kind.{Kind}
use Rattle.jwt_base.specs.declared.algorithms.Algorithm.TheVariants.{HS256}
use Rattle.jwt_base.specs.declared.algorithms.Algorithm.{Algorithm}
use Rattle.jwt_base.specs.declared.algorithms.AlgorithmFamily.TheVariants.{Hmac}
use Rattle.jwt_header.specs.Header.{new_header}
use Rattle.jwt_header.specs.declared.header.Header.{Header}
use Rattle.jwt_keys.specs.Key.{Key, Plain}
use Rattle.jwt_keys.specs.declared.jwk.Jwk.{Jwk}
use Rattle.jwt_params.specs.declared.parameters.AlgorithmParameters.TheVariants.{Other}
use Rattle.jwt_params.specs.Common.{no_common}
use Rattle.jwt_validation.specs.Options.{Options}
use Rattle.jsonwebtoken.specs.Tests.{Parts, Given, Call, Test, ClaimsAreAnObject, ClaimsAreValid, Contents}
use Rattle.jsonwebtoken.specs.Tests.{header_call, insecure_call}
use Rattle.jsonwebtoken.specs.declared.decoding.TokenData.{TokenData}
use Rattle.jsonwebtoken.specs.declared.decoding.parts.TokenParts.{TokenParts}
use Rattle.jsonwebtoken.specs.declared.refusal.Refusal.{Refusal}

-- ---- what a step shows

-- nothing
abbrev pub ShowsNothing : {R : Type 0} → Contents → R → Type 0
ShowsNothing t r = Unit {0}

abbrev pub ShowsHeader : Contents → Header → Type 0
ShowsHeader t header = t.header ≡ header

abbrev pub ShowsClaims : {T : Type 0} → (Data → T → Type 0) → Contents → T → Type 0
ShowsClaims reads t claims = reads t.payload_value claims

-- the header with the claims that were read after it, or their refusal
abbrev pub IsBeside : {T : Type 0} → Header → Result T Refusal → Result (TokenData T) Refusal → Type 0
IsBeside h (Ok c) r = r ≡ Ok (record { header = h; claims = c })
IsBeside h (Err f) r = r ≡ Err f

-- ---- the contents that a step knows of

-- all of them
abbrev pub whole : Contents → Contents
whole x = x

abbrev pub no_jwk : Jwk
no_jwk = record { common = no_common; algorithm = Other (record { fields = no_members }) }

abbrev pub no_contents : Contents
no_contents = record {
  parts = record { header = []; payload = []; signature = [] };
  header_bytes = [];
  header_value = null;
  header = new_header HS256;
  jwk = no_jwk;
  jwk_key = Plain Hmac [];
  signature_bytes = [];
  payload_bytes = [];
  payload_value = null;
}

-- the three parts that slices hold
abbrev pub parts_in : TokenParts → Parts
parts_in p = record { header = p.header.now; payload = p.payload.now; signature = p.signature.now }

abbrev pub with_header_part : List ℕ → Contents → Contents
with_header_part h x = record x { parts = record { header = h; payload = []; signature = [] } }

abbrev pub with_payload_part : List ℕ → Contents → Contents
with_payload_part p x = record x { parts = record { header = []; payload = p; signature = [] } }

abbrev pub with_parts : Parts → Contents → Contents
with_parts p x = record x { parts = p }

abbrev pub with_header : Header → Contents → Contents
with_header h x = record x { header = h }

abbrev pub with_value : Data → Contents → Contents
with_value d x = record x { payload_value = d }

-- the parts, and the header that was read of them
abbrev pub with_opening : Parts → Header → Contents → Contents
with_opening p h x = record x { parts = p; header = h }

-- the tests of claims that are read
abbrev pub rule_tests : List Test
rule_tests = ClaimsAreAnObject ∷ ClaimsAreValid ∷ []

-- ---- the calls that a step knows of

-- of claims alone
abbrev pub reading : {T : Type 0} → (Data → T → Type 0) → Call T
reading reads = insecure_call [] reads

-- of nothing
abbrev pub bare : Call (Unit {0})
bare = header_call []

-- of the options, a key, and the provider's refusals
abbrev pub allowing : Options → Key → (Algorithm → Key → Option Kind) → Call (Unit {0})
allowing o key refusal = record bare { options = o; keys = Given key; refusal = refusal }

-- of the options and the time
abbrev pub holding : Options → ℕ → Call (Unit {0})
holding o time = record bare { options = o; time = time }

-- of what one verifier accepts
abbrev pub accepting : (List ℕ → List ℕ → Type 0) → Call (Unit {0})
accepting accepts = record bare { accepts = λ _ _. accepts }

-- of claims, options and the time
abbrev pub claiming : {T : Type 0} → (Data → T → Type 0) → Options → ℕ → Call T
claiming reads o time = record (reading reads) { options = o; time = time }

-- of claims, options, the time and what one verifier accepts
abbrev pub verifying_by : {T : Type 0} → (Data → T → Type 0) → Options → ℕ
    → (List ℕ → List ℕ → Type 0) → Call T
verifying_by reads o time accepts =
    record (reading reads) { options = o; time = time; accepts = λ _ _. accepts }
