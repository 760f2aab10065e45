-- The request that the arguments of the command line stand for.
use Rattle.std.specs.Prelude.{◌≡◌, ◌≢◌, ◌⊎◌, ⊤, ℕ, List, [], Bool, true, false, Option, Some, None, map}
use Rattle.std.specs.Prelude.{All, IfSome, option_map, codes}
use Rattle.std.specs.Borrow.{Bor}
use Rattle.std.specs.Option.{option_or}
use Rattle.clap.specs.Matches.{first_value, matched_of, one_text, raw_values, subcommand_name_of}
use Rattle.clap.specs.Simple.{subcommand_rows_of}
use Rattle.clap.specs.Walk.{rows_of}
use Rattle.clap.specs.declared.parser.matches.ArgMatches.{ArgMatches}
use Rattle.clap.specs.declared.parser.matches.Found.{Found}
use Rattle.jwt_base.specs.Algorithm.{algorithm_named, family_of}
use Rattle.jwt_base.specs.Decimal.{decimal_value}
use Rattle.jwt_base.specs.declared.algorithms.Algorithm.{Algorithm}
use Rattle.jwt_base.specs.declared.algorithms.AlgorithmFamily.{AlgorithmFamily}
use Rattle.jwt_base.specs.declared.algorithms.AlgorithmFamily.TheVariants.{Hmac}
use Rattle.jwt_params.specs.declared.thumbprints.ThumbprintHash.{ThumbprintHash}
use Rattle.jwt_params.specs.declared.thumbprints.ThumbprintHash.TheVariants.{SHA256, SHA384, SHA512}
use Rattle.jwt_requests.specs.declared.request.Checks.{Checks}
use Rattle.jwt_requests.specs.declared.request.Draft.{Draft}
use Rattle.jwt_requests.specs.declared.request.KeyFile.{KeyFile}
use Rattle.jwt_requests.specs.declared.request.KeyFile.TheVariants as file
use Rattle.jwt_requests.specs.declared.request.Request.{Request}
use Rattle.jwt_requests.specs.declared.request.Request.TheVariants.{Verify, Explain, Show, Sign, SigningInput, Attach}
use Rattle.jwt_requests.specs.declared.request.Request.TheVariants.{Keys, Jwk, Thumbprint}
use Rattle.jwt_requests.specs.declared.request.SecretFile.{SecretFile}
use Rattle.jwt_requests.specs.declared.request.ShowArgs.{ShowArgs}
use Rattle.jwt_requests.specs.declared.request.SignArgs.{SignArgs}
use Rattle.jwt_requests.specs.declared.request.VerifyArgs.{VerifyArgs}

-- the text that a reference points to, if there is one
abbrev pub text_of : Option (Bor (List ℕ)) → Option (List ℕ)
text_of = option_map (λ s. s.now)

-- the texts of a list, if there is one
abbrev pub texts_of : Option (Bor (List (Bor (List ℕ)))) → Option (List (List ℕ))
texts_of = option_map (λ names. map (λ s. s.now) names.now)

-- the values that are given under an id, each time
abbrev pub values_of : Found → List ℕ → Option (List (List ℕ))
values_of f id = option_map raw_values (matched_of f id)

-- whether a flag is set
pub record IsFlag (f : Found) (id : List ℕ) (b : Bool) : Type 0 where
  pub set : one_text f id ≡ Some (codes "true") → b ≡ true
  pub unset : one_text f id ≡ Some (codes "false") → b ≡ false
  pub absent : one_text f id ≡ None → b ≡ false

-- the number of a value; of one that is no such number, but a time or a span, this says that there is a number
abbrev pub IsNumberOf : Option (List ℕ) → Option ℕ → Type 0
IsNumberOf None number = number ≡ None
IsNumberOf (Some word) None = ⊥
IsNumberOf (Some word) (Some n) = (k : ℕ) → decimal_value word ≡ Some k → n ≡ k

-- the file of a secret: this path, with the flags that say how it is read
pub record IsSecretFile (f : Found) (given : Bor (List ℕ)) (s : SecretFile) : Type 0 where
  pub path : s.path ≡ given
  pub is_trimmed : IsFlag f (codes "trim") s.is_trimmed
  pub allows_key : IsFlag f (codes "allow-key-as-secret") s.allows_key

-- the file of keys: that of the first of these options that is given
abbrev pub IsKeyFile : Found → KeyFile → Type 0
IsKeyFile f (file.Secret s) =
    (path : Bor (List ℕ)) × (first_value f (codes "secret-file") ≡ Some path.now) × IsSecretFile f path s
IsKeyFile f (file.Jwk path) =
    (first_value f (codes "secret-file") ≡ None) × (first_value f (codes "jwk") ≡ Some path.now)
IsKeyFile f (file.Jwks path) =
    (first_value f (codes "secret-file") ≡ None) × (first_value f (codes "jwk") ≡ None)
    × (first_value f (codes "jwks") ≡ Some path.now)
IsKeyFile f (file.Pem path) =
    (first_value f (codes "secret-file") ≡ None) × (first_value f (codes "jwk") ≡ None)
    × (first_value f (codes "jwks") ≡ None) × (first_value f (codes "pem") ≡ Some path.now)

-- a claim that can be required (RFC 7519 section 4.1)
abbrev pub IsRequirable : List ℕ → Type 0
IsRequirable name = (name ≡ codes "exp") ⊎ (name ≡ codes "nbf") ⊎ (name ≡ codes "aud") ⊎ (name ≡ codes "iss")
    ⊎ (name ≡ codes "sub")

-- algorithms of one family: with those of several, each token would be refused
abbrev pub AreOfOneFamily : List Algorithm → Type 0
AreOfOneFamily algorithms = (f : AlgorithmFamily) × All (λ a. family_of a ≡ f) algorithms

-- names of which none is empty
abbrev pub AreNames : Bor (List (Bor (List ℕ))) → Type 0
AreNames names = All (λ s. s.now ≢ []) names.now

-- what a token is checked against
pub record AreChecks (f : Found) (c : Checks) : Type 0 where
  pub options : text_of c.options ≡ first_value f (codes "options")
  pub is_strict : IsFlag f (codes "strict") c.is_strict
  pub algorithms : option_map (map algorithm_named) (values_of f (codes "alg"))
      ≡ option_map (λ a. map Some a.items) c.algorithms
  pub of_one_family : IfSome c.algorithms (λ a. AreOfOneFamily a.items)
  pub audiences : texts_of c.audiences ≡ values_of f (codes "aud")
  pub audiences_are_names : IfSome c.audiences AreNames
  pub issuers : texts_of c.issuers ≡ values_of f (codes "iss")
  pub issuers_are_names : IfSome c.issuers AreNames
  pub subject : text_of c.subject ≡ first_value f (codes "sub")
  pub subject_is_name : IfSome c.subject (λ s. s.now ≢ [])
  pub leeway : IsNumberOf (first_value f (codes "leeway")) c.leeway
  pub not_within : IsNumberOf (first_value f (codes "not-within")) c.not_within
  pub required : texts_of c.required ≡ values_of f (codes "require")
  pub requirable : IfSome c.required (λ names. All (λ s. IsRequirable s.now) names.now)
  pub checks_nbf : IsFlag f (codes "nbf") c.checks_nbf
  pub skips_exp : IsFlag f (codes "no-exp") c.skips_exp
  pub understood : texts_of c.understood ≡ values_of f (codes "crit")

-- the arguments that `verify` and `explain` share
pub record IsChecking (f : Found) (v : VerifyArgs) : Type 0 where
  pub token : text_of v.token ≡ first_value f (codes "token")
  pub key : IsKeyFile f v.key
  pub checks : AreChecks f v.checks
  pub typ : text_of v.typ ≡ first_value f (codes "typ")
  pub time : IsNumberOf (first_value f (codes "now")) v.time
  pub is_json : IsFlag f (codes "json") v.is_json

-- the arguments of `sign` about header and claims; the algorithm is HS256 if none is given
pub record IsDraftOf (f : Found) (s : Draft) : Type 0 where
  pub claims : text_of s.claims ≡ first_value f (codes "claims")
  pub algorithm : option_map algorithm_named (option_or (first_value f (codes "alg")) (Some (codes "HS256")))
      ≡ Some (Some s.algorithm)
  pub kid : text_of s.kid ≡ first_value f (codes "kid")
  pub typ : text_of s.typ ≡ first_value f (codes "typ")
  pub exp_in : IsNumberOf (first_value f (codes "exp-in")) s.exp_in
  pub nbf_in : IsNumberOf (first_value f (codes "nbf-in")) s.nbf_in
  pub has_iat : IsFlag f (codes "iat") s.has_iat
  pub time : IsNumberOf (first_value f (codes "now")) s.time

-- the arguments of `sign` with a secret
pub record IsSigningOf (f : Found) (s : SignArgs) : Type 0 where
  pub draft : IsDraftOf f s.draft
  pub secret : (path : Bor (List ℕ)) × (first_value f (codes "secret-file") ≡ Some path.now)
      × IsSecretFile f path s.secret

-- the file of the keys that a signature is verified with, if one of these options is given
abbrev pub IsKeyGiven : Found → Option KeyFile → Type 0
IsKeyGiven f None =
    (first_value f (codes "jwk") ≡ None) × (first_value f (codes "jwks") ≡ None)
    × (first_value f (codes "pem") ≡ None)
IsKeyGiven f (Some file) = IsKeyFile f file

-- the arguments of `show`
pub record IsShowing (f : Found) (s : ShowArgs) : Type 0 where
  pub token : text_of s.token ≡ first_value f (codes "token")
  pub time : IsNumberOf (first_value f (codes "now")) s.time
  pub is_json : IsFlag f (codes "json") s.is_json

-- the hash of this name, or SHA-256 if none is given (RFC 7638 section 3.4)
abbrev pub IsHash : Option (List ℕ) → ThumbprintHash → Type 0
IsHash name SHA256 = (name ≡ None) ⊎ (name ≡ Some (codes "SHA256"))
IsHash name SHA384 = name ≡ Some (codes "SHA384")
IsHash name SHA512 = name ≡ Some (codes "SHA512")

-- the path of the file that is listed
abbrev pub IsFile : Found → Bor (List ℕ) → Type 0
IsFile f path = Some path.now ≡ option_or (first_value f (codes "file")) (Some [])

-- no token is given, or `-`, which stands for standard input
abbrev pub IsFromInput : Option (List ℕ) → Type 0
IsFromInput None = ⊤
IsFromInput (Some token) = token ≡ codes "-"

-- whether each line of standard input is a token; no token is given then, and no header is asked for
abbrev pub AreLinesAsked : Found → Bool → Bool → Type 0
AreLinesAsked f is_lines has_header =
    IsFlag f (codes "lines") is_lines × IsFlag f (codes "header") has_header
    × (is_lines ≡ true → (has_header ≡ false) × IsFromInput (first_value f (codes "token")))

-- the command of this name, with these arguments
abbrev pub IsCommand : List ℕ → Found → Request → Type 0
IsCommand name f (Verify v) = (name ≡ codes "verify") × IsChecking f v
    × AreLinesAsked f v.is_lines v.has_header
IsCommand name f (Explain v) = (name ≡ codes "explain") × IsChecking f v
    × (v.has_header ≡ false) × (v.is_lines ≡ false) × IsFlag f (codes "brief") v.is_brief
IsCommand name f (Show s) = (name ≡ codes "show") × IsShowing f s
IsCommand name f (Sign s) = (name ≡ codes "sign") × (first_value f (codes "signature") ≡ None)
    × IsFlag f (codes "signing-input") false × IsSigningOf f s
IsCommand name f (SigningInput d) = (name ≡ codes "sign") × (first_value f (codes "signature") ≡ None)
    × IsFlag f (codes "signing-input") true × IsDraftOf f d × (family_of d.algorithm ≢ Hmac)
IsCommand name f (Attach a) = (name ≡ codes "sign") × (first_value f (codes "signature") ≡ Some a.signature.now)
    × IsKeyGiven f a.key
IsCommand name f (Keys l) = (name ≡ codes "keys") × IsFile f l.file × IsFlag f (codes "json") l.is_json
IsCommand name f (Jwk file) = (name ≡ codes "jwk") × IsFile f file
IsCommand name f (Thumbprint d) = (name ≡ codes "thumbprint") × IsFile f d.file
    × IsHash (first_value f (codes "hash")) d.hash

-- the request is that of the command that was found, and of its arguments
abbrev pub IsRequestOf : ArgMatches → Request → Type 0
IsRequestOf m r = (name : List ℕ) × (subcommand_name_of m ≡ Some name)
    × ((f : Found) × (option_map (λ p. p.1) (subcommand_rows_of m) ≡ Some (rows_of f))
    × IsCommand name f r)
