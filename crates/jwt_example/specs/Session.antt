-- How the claims of a session are read from a JSON value, and how they are written.
use Rattle.std.specs.Prelude.{◌≡◌, Some, option_map, codes}
use Rattle.serde_json.specs.Data.{Data, string, number, unsigned, object, no_members, put}
use Rattle.serde_json.specs.Find.{get, as_str}
use Rattle.jwt_base.specs.Members.{optional, texts, texts_value, put_some}
use Rattle.jwt_example.specs.Numbers.{number_at}
use Rattle.jwt_example.specs.declared.session.Session.{Session}

-- `sub` is a string, `roles` a list of strings or absent, `exp` a whole number
pub record ReadsSession (d : Data) (s : Session) : Type 0 where
  pub user : optional as_str (get (codes "sub") d) ≡ Some (Some s.user)
  pub roles : optional texts (get (codes "roles") d) ≡ Some s.roles
  pub ends : number_at (codes "exp") d ≡ Some s.ends

-- the object of the three
abbrev pub session_value : Session → Data
session_value s = object (
    put (codes "exp") (number (unsigned s.ends)) (
    put (codes "sub") (string s.user) (
    put_some (codes "roles") (option_map texts_value s.roles) no_members)))

-- sessions that are read from one value are written alike
pub written_alike : (d : Data) (b c : Session) → ReadsSession d b → ReadsSession d c
    → Some (session_value b) ≡ Some (session_value c)
written_alike d b c p q =
    let user : b.user ≡ c.user = cc (p.user, q.user) in
    let roles : b.roles ≡ c.roles = cc (p.roles, q.roles) in
    let ends : b.ends ≡ c.ends = cc (p.ends, q.ends) in
    λ i. Some (session_value (record { user = user i; roles = roles i; ends = ends i }))
