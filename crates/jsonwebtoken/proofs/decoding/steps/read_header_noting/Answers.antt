use Rattle.std.proofs.Common.{inl, inr, refl}
use Rattle.serde_json.specs.View.{view}
use Rattle.jwt_header.specs.Header.{new_header}
use Rattle.jsonwebtoken.specs.private_clauses.Steps.{ShowsHeader, no_contents, bare, with_header_part}
use Rattle.jsonwebtoken.specs.Tests.{HeaderIsBase64url, HeaderIsJson, HeaderIsValid, header_tests}
use Rattle.jsonwebtoken.proofs.Exits.{exit_noting, last_noting}
use Rattle.jsonwebtoken.proofs.decoding.steps.read_header_noting.Goals as goal

pub returns-in_err-typ : goal.returns-in_err-typ
returns-in_err-typ c =
    exit_noting bare header_tests (with_header_part c.args.part.now) ShowsHeader {A = ⊥} HeaderIsValid _ _
    c.from_residual.ensures.1 (λ none. absurd none) (inl c.in_err-typ.ensures.err)

pub returns-in-Some : goal.returns-in-Some
returns-in-Some c =
    let u = c.in-Some.ensures in (
      record no_contents {
        header_bytes = u.bytes;
        header_value = u.value;
        header = new_header c.in-Some.algorithm;
      },
      (u.is_part, (u.is_json, (u.reads, tt))),
      rw (c.in_ok-typ.ensures.ok, c.new.ensures) refl,
    )

pub returns-in_err-bytes : goal.returns-in_err-bytes
returns-in_err-bytes c =
    exit_noting bare header_tests (with_header_part c.args.part.now) ShowsHeader HeaderIsBase64url _ _ c.from_residual-in_err-bytes.ensures.1
    (λ f. (no_contents, inl (f.1, (refl, f.0)))) c.in_err-bytes.ensures.err

pub returns-in_err-value : goal.returns-in_err-value
returns-in_err-value c =
    let read = rw c.as_slice.ensures.value at c.in_err-value.ensures.err in
    exit_noting bare header_tests (with_header_part c.args.part.now) ShowsHeader HeaderIsJson _ _
    c.from_residual-in_err-value.ensures.1
    (λ f. (
      record no_contents { header_bytes = c.in_ok-bytes.bytes.items },
      inr (c.in_ok-bytes.ensures.ok, inl (f.1, (refl, f.0))),
    )) read

pub returns : goal.returns
returns c =
    let json = rw c.as_slice.ensures.value at c.in_ok-value.ensures.ok in
    let t = record no_contents { header_bytes = c.in_ok-bytes.bytes.items; header_value = view c.in_ok-value.value } in
    last_noting bare header_tests (with_header_part c.args.part.now) ShowsHeader HeaderIsValid c.from_value.result
    c.from_value.ensures.ok c.from_value.ensures.err
    (λ h reads. (record t { header = h }, (c.in_ok-bytes.ensures.ok, (json, (reads, tt))), refl))
    (λ e none. (t, inr (c.in_ok-bytes.ensures.ok, inr (json, inl (none.1, (refl, none.0))))))
