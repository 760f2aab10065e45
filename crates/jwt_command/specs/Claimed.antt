-- The header and the claims that the arguments of `sign` ask for.
use Rattle.std.specs.Prelude.{◌+◌, ℕ, Some, None, option_map, if◌then◌else◌, codes}
use Rattle.std.specs.Option.{option_or}
use Rattle.serde_json.specs.Data.{Data, Members, number, unsigned}
use Rattle.jwt_base.specs.Members.{put_some}
use Rattle.jwt_header.specs.Header.{new_header}
use Rattle.jwt_header.specs.declared.header.Header.{Header}
use Rattle.jwt_requests.specs.declared.request.Draft.{Draft}

-- the header of the algorithm, with the type `JWT` if no other is given (RFC 7519 section 5.1)
abbrev pub header_asked : Draft → Header
header_asked s = record (new_header s.algorithm) {
  typ = option_or (option_map (λ t. t.now) s.typ) (Some (codes "JWT"));
  kid = option_map (λ t. t.now) s.kid;
}

-- a time as a claim has it (RFC 7519 section 2)
abbrev pub numeric_date : ℕ → Data
numeric_date time = number (unsigned time)

-- the members, with the times that the arguments ask for (RFC 7519 sections 4.1.4 to 4.1.6)
abbrev pub members_with_times : Draft → ℕ → Members → Members
members_with_times s time members =
    put_some (codes "iat") (if s.has_iat then Some (numeric_date time) else None) (
    put_some (codes "nbf") (option_map (λ seconds. numeric_date (time + seconds)) s.nbf_in) (
    put_some (codes "exp") (option_map (λ seconds. numeric_date (time + seconds)) s.exp_in) members))
