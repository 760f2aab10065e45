-- The exit status and the output of the commands, by the arguments and by the bytes that a command reads.
use Rattle.std.specs.Prelude.{◌≡◌, ◌≢◌, ◌⊎◌, ⊤, ℕ, max, List, [], ◌∷◌, true, false, Option, Some, None}
use Rattle.std.specs.Prelude.{option_map, is_some, if◌then◌else◌, codes}
use Rattle.std.specs.Borrow.{Bor}
use Rattle.std.specs.Io.KnownBytes.{Appends}
use Rattle.serde_json.specs.Data.{Members, object}
use Rattle.jwt_base.specs.Claims.{IsValue}
use Rattle.jwt_base.specs.JsonText.{IsJson}
use Rattle.jwt_base.specs.Kind.{Kind}
use Rattle.jwt_base.specs.declared.algorithms.Algorithm.{Algorithm}
use Rattle.jwt_validation.specs.Options.{Options}
use Rattle.jsonwebtoken.specs.Finder.{IsOwnOf}
use Rattle.jsonwebtoken.specs.Order.{Passes, FailsFirst}
use Rattle.jsonwebtoken.specs.Own.{listed, with_algorithms}
use Rattle.jsonwebtoken.specs.Tests.{Contents, insecure_call, insecure_order, token_tests}
use Rattle.jwt_command.specs.Answers.{IsVerdict, IsVerifyAnswer, IsSignAnswer}
use Rattle.jwt_command.specs.BySignature.{IsAttached, IsInputAnswer}
use Rattle.jwt_command.specs.Claimed.{header_asked, members_with_times}
use Rattle.jwt_command.specs.FileKeys.{AreLoaded, IsJwkLine, IsTaken}
use Rattle.jwt_command.specs.LineEnd.{IsLessLineEnd, IsSecret}
use Rattle.jwt_command.specs.Own.{with_key_algorithm}
use Rattle.jwt_command.specs.Requested.{AreRequested}
use Rattle.jwt_verifier.specs.Verifying.{source_of}
use Rattle.jwt_verifier.specs.declared.keys.Keys.{Keys as KeyValues}
use Rattle.jwt_command.specs.declared.keys.LoadedKeys.{LoadedKeys}
use Rattle.jwt_requests.specs.declared.request.AttachArgs.{AttachArgs}
use Rattle.jwt_requests.specs.declared.request.Draft.{Draft}
use Rattle.jwt_requests.specs.declared.request.KeyFile.{KeyFile}
use Rattle.jwt_requests.specs.declared.request.Request.{Request}
use Rattle.jwt_requests.specs.declared.request.Request.TheVariants.{Verify, Explain, Show, Sign, SigningInput, Attach}
use Rattle.jwt_requests.specs.declared.request.Request.TheVariants.{Keys, Jwk, Thumbprint}
use Rattle.jwt_requests.specs.declared.request.ShowArgs.{ShowArgs}
use Rattle.jwt_requests.specs.declared.request.SignArgs.{SignArgs}
use Rattle.jwt_requests.specs.declared.request.VerifyArgs.{VerifyArgs}
use Rattle.jwt_command.specs.declared.verify.OutputForm.{OutputForm}
use Rattle.jwt_command.specs.declared.verify.OutputForm.TheVariants.{Claims, HeaderAndClaims, Json, Line}

-- a value that an argument has is the one that is taken
abbrev pub IsGiven : {A : Type 0} → Option A → A → Type 0
IsGiven None value = ⊤
IsGiven (Some asked) value = value ≡ asked

-- a token that an argument has is the one that is taken, unless it is `-`
abbrev pub IsGivenToken : Option (Bor (List ℕ)) → List ℕ → Type 0
IsGivenToken None bytes = ⊤
IsGivenToken (Some token) bytes = token.now ≢ codes "-" → bytes ≡ token.now

-- the options for a token: if they name no algorithm, that of its key is the only one, or none is if the key is not one of
-- a set that has one (RFC 8725 section 3.1)
abbrev pub ChoosesAlgorithm : KeyValues → List ℕ → Options → Options → Type 0
ChoosesAlgorithm keys token options settled =
    ((options.algorithms ≢ []) × (settled ≡ options))
    ⊎ ((options.algorithms ≡ []) × ((own : Option Algorithm) × IsOwnOf (source_of keys) token own
    × (settled ≡ with_algorithms options (listed own))))

-- how an accepted token is written
abbrev pub form_asked : VerifyArgs → OutputForm
form_asked v = if v.is_json then Json else if v.has_header then HeaderAndClaims else Claims

-- the type that the header has to have, if one is asked for
abbrev pub type_asked : VerifyArgs → Option (List ℕ)
type_asked v = option_map (λ t. t.now) v.typ

-- status and output for the bytes of a token, less their line end, under these keys and options
abbrev pub IsTokenAnswer : VerifyArgs → LoadedKeys → Options → List ℕ → ℕ → OutputForm → ℕ → List ℕ → Type 0
IsTokenAnswer v loaded options bytes time form status output =
    (token : List ℕ) × IsLessLineEnd bytes token
    × ((settled : Options) × ChoosesAlgorithm loaded.keys.keys token options settled
    × IsVerifyAnswer token loaded.keys.keys settled time (type_asked v) form status output)

-- the status of `explain`, which is that of `verify`
abbrev pub IsTokenVerdict : VerifyArgs → LoadedKeys → Options → List ℕ → ℕ → ℕ → Type 0
IsTokenVerdict v loaded options bytes time status =
    (token : List ℕ) × IsLessLineEnd bytes token
    × ((settled : Options) × ChoosesAlgorithm loaded.keys.keys token options settled
    × IsVerdict token loaded.keys.keys settled time (type_asked v) status)

-- the keys and the options are those of the arguments, with the files that they name; if these name no algorithm, that of
-- the one key is listed
abbrev pub AreAsked : VerifyArgs → LoadedKeys → Options → Type 0
AreAsked v loaded options =
    (key : List ℕ) × AreLoaded v.key key loaded.keys.keys loaded.own
    × ((file : Option (List ℕ)) × (is_some file ≡ is_some v.checks.options)
    × ((requested : Options) × AreRequested v.checks file requested
    × (options ≡ with_key_algorithm loaded.own requested)))

-- the answer of `verify` to a token
abbrev pub IsVerification : VerifyArgs → ℕ → List ℕ → Type 0
IsVerification v status output =
    (bytes : List ℕ) × IsGivenToken v.token bytes
    × ((time : ℕ) × IsGiven v.time time
    × ((loaded : LoadedKeys) × ((options : Options) × AreAsked v loaded options
    × IsTokenAnswer v loaded options bytes time (form_asked v) status output)))

-- the status of `explain`
abbrev pub IsExplanation : VerifyArgs → ℕ → Type 0
IsExplanation v status =
    (bytes : List ℕ) × IsGivenToken v.token bytes
    × ((time : ℕ) × IsGiven v.time time
    × ((loaded : LoadedKeys) × ((options : Options) × AreAsked v loaded options
    × IsTokenVerdict v loaded options bytes time status)))

-- status and output of `sign`, by the bytes of the secret's file and of the claims; the secret is one that is taken
abbrev pub IsSigned : SignArgs → List ℕ → List ℕ → ℕ → ℕ → List ℕ → Type 0
IsSigned s key text time status output =
    (secret : List ℕ) × IsSecret s.secret.is_trimmed key secret × IsTaken s.secret.allows_key secret
    × ((members : Members) × IsJson text (object members)
    × IsSignAnswer (header_asked s.draft) (object (members_with_times s.draft time members)) secret status output)

-- the answer of `sign`
abbrev pub IsSigning : SignArgs → ℕ → List ℕ → Type 0
IsSigning s status output =
    (key : List ℕ) × (text : List ℕ)
    × ((time : ℕ) × IsGiven s.draft.time time × IsSigned s key text time status output)

-- status and output of `sign` for what another program has to sign
abbrev pub IsSigningInput : Draft → ℕ → List ℕ → Type 0
IsSigningInput d status output =
    (text : List ℕ) × ((time : ℕ) × IsGiven d.time time
    × ((members : Members) × IsJson text (object members)
    × IsInputAnswer (header_asked d) (object (members_with_times d time members)) status output))

-- the keys of the file that an argument names, if one does
abbrev pub AreGiven : Option KeyFile → Option KeyValues → Type 0
AreGiven None keys = keys ≡ None
AreGiven (Some file) None = ⊥
AreGiven (Some file) (Some keys) =
    (bytes : List ℕ) × ((own : Option Algorithm) × AreLoaded file bytes keys own)

-- status and output of `sign` for the signature of another program, by the signing input and the bytes of the signature's file
abbrev pub IsAttaching : AttachArgs → ℕ → List ℕ → Type 0
IsAttaching a status output =
    (input : List ℕ) × (file : List ℕ)
    × ((keys : Option KeyValues) × AreGiven a.key keys × IsAttached input file keys status output)

-- the status of a line, which is a token
abbrev pub IsLineStatus : VerifyArgs → LoadedKeys → Options → ℕ → Type 0
IsLineStatus v loaded options status =
    (bytes : List ℕ) × ((time : ℕ) × IsGiven v.time time
    × ((output : List ℕ) × IsTokenAnswer v loaded options bytes time Line status output))

-- the greatest of these, or 0
abbrev pub greatest_status : List ℕ → ℕ
greatest_status [] = 0
greatest_status (n ∷ ns) = max n (greatest_status ns)

-- P holds of each
abbrev pub Each : (ℕ → Type 0) → List ℕ → Type 0
Each P [] = ⊤
Each P (n ∷ ns) = P n × Each P ns

-- the greatest status of some lines; that these are all lines of the input, it can't say
abbrev pub IsLinesStatus : VerifyArgs → LoadedKeys → Options → ℕ → Type 0
IsLinesStatus v loaded options status =
    (statuses : List ℕ) × Each (IsLineStatus v loaded options) statuses
    × (status ≡ greatest_status statuses)

-- the status of `verify` for many lines
abbrev pub AreVerified : VerifyArgs → ℕ → Type 0
AreVerified v status =
    (loaded : LoadedKeys) × ((options : Options) × AreAsked v loaded options
    × IsLinesStatus v loaded options status)

-- header and claims can be read, or they can't (RFC 7515 section 5.2, RFC 7519 section 7.2)
abbrev pub IsReadable : List ℕ → ℕ → Type 0
IsReadable token status =
    ((t : Contents) × Passes (token_tests (insecure_call token IsValue)) insecure_order t
    × (status ≡ 0))
    ⊎ ((k : Kind) × FailsFirst (token_tests (insecure_call token IsValue)) insecure_order k
    × (status ≡ 1))

-- the status of `show`
abbrev pub IsShown : ShowArgs → ℕ → Type 0
IsShown s status =
    (bytes : List ℕ) × IsGivenToken s.token bytes
    × ((token : List ℕ) × IsLessLineEnd bytes token × IsReadable token status)

-- the answer to a request; of the output of the other commands than `verify`, `sign` and `jwk`, and of that of
-- `verify` for many lines, this says nothing
abbrev pub IsAnswer : Request → ℕ → List ℕ → Type 0
IsAnswer (Verify v) status output =
    ((v.is_lines ≡ true) × AreVerified v status)
    ⊎ ((v.is_lines ≡ false) × IsVerification v status output)
IsAnswer (Explain v) status output = IsExplanation v status
IsAnswer (Show s) status output = IsShown s status
IsAnswer (Sign s) status output = IsSigning s status output
IsAnswer (SigningInput d) status output = IsSigningInput d status output
IsAnswer (Attach a) status output = IsAttaching a status output
IsAnswer (Keys k) status output = status ≡ 0
IsAnswer (Jwk k) status output = (status ≡ 0) × ((bytes : List ℕ) × IsJwkLine bytes output)
IsAnswer (Thumbprint d) status output = status ≡ 0

-- the status of a command that has no answer: 2 for arguments, and 3 for files, streams, the clock and memory
abbrev pub IsFaultStatus : ℕ → Type 0
IsFaultStatus status = (status ≡ 2) ⊎ (status ≡ 3)

-- the status of the command for a request, and what it appends to what was written, if that is known
abbrev pub IsStatus : Request → Option (List ℕ) → Option (List ℕ) → ℕ → Type 0
IsStatus r before after status =
    IsFaultStatus status
    ⊎ ((output : List ℕ) × IsAnswer r status output × Appends before after output)
