use Rattle.std.proofs.Common.{Err, List, refl}
use Rattle.jwt_base.specs.declared.algorithms.Algorithm.{Algorithm}
use Rattle.jwt_validation.specs.OptionsOf.{options_of}
use Rattle.jsonwebtoken.specs.Family.{family_by, left_for, with_family}
use Rattle.jsonwebtoken.specs.Finding.{finding}
use Rattle.jsonwebtoken.specs.Own.{with_algorithms}
use Rattle.jsonwebtoken.specs.Tests.{header_call}
use Rattle.jsonwebtoken.specs.private_clauses.Steps.{no_contents, parts_in}
use Rattle.jsonwebtoken.proofs.Exits.{opened, opened_passes}
use Rattle.jsonwebtoken.proofs.FamilyAnswers.{any_accepts, any_decided, any_one, fits, then_accepts, then_decided, then_one}
use Rattle.jsonwebtoken.proofs.FinderLemmas.{decides_by, laws_by, says_claims, says_cut, says_header, says_refused}
use Rattle.jsonwebtoken.proofs.decoding.engine.decode_by_family.Goals as goal

pub returns-in-Err-clause-decided : goal.returns-in-Err-clause-decided
returns-in-Err-clause-decided g c =
    let o = options_of c.args.validation.now in
    let call = finding g.K.KeyFinder g.T.Claims c.args.keys.now c.args.token.now o c.args.time in
    let law = g.met.K.KeyFinder.same_family c.args.keys.now in
    let whatever = λ (l : List Algorithm). decides_by (record call { options = with_algorithms o l }) call.keys _
    (says_cut call call.keys o c.args.token.now l c.in-Err.refusal c.in-Err.ensures) in
    any_decided call call.keys o c.args.token.now law _ whatever

pub returns-in-Err-clause-accepts : goal.returns-in-Err-clause-accepts
returns-in-Err-clause-accepts g c =
    let o = options_of c.args.validation.now in
    let call = finding g.K.KeyFinder g.T.Claims c.args.keys.now c.args.token.now o c.args.time in
    let law = g.met.K.KeyFinder.same_family c.args.keys.now in
    let whatever = λ (l : List Algorithm). decides_by (record call { options = with_algorithms o l }) call.keys _
    (says_cut call call.keys o c.args.token.now l c.in-Err.refusal c.in-Err.ensures) in
    any_accepts call call.keys o c.args.token.now law _ whatever

pub returns-in-Err-clause-one_family : goal.returns-in-Err-clause-one_family
returns-in-Err-clause-one_family g c =
    let o = options_of c.args.validation.now in
    let call = finding g.K.KeyFinder g.T.Claims c.args.keys.now c.args.token.now o c.args.time in
    let law = g.met.K.KeyFinder.same_family c.args.keys.now in
    let whatever = λ (l : List Algorithm). decides_by (record call { options = with_algorithms o l }) call.keys _
    (says_cut call call.keys o c.args.token.now l c.in-Err.refusal c.in-Err.ensures) in
    any_one call call.keys o c.args.token.now law _ whatever

pub returns-in-Err-clause-fits : goal.returns-in-Err-clause-fits
returns-in-Err-clause-fits g c =
    let o = options_of c.args.validation.now in
    let call = finding g.K.KeyFinder g.T.Claims c.args.keys.now c.args.token.now o c.args.time in
    let law = g.met.K.KeyFinder.same_family c.args.keys.now in
    fits call call.keys o c.args.token.now law

pub returns-in-Err-clause-laws : goal.returns-in-Err-clause-laws
returns-in-Err-clause-laws g c =
    let o = options_of c.args.validation.now in
    let call = finding g.K.KeyFinder g.T.Claims c.args.keys.now c.args.token.now o c.args.time in
    let law = g.met.K.KeyFinder.same_family c.args.keys.now in
    λ f. laws_by (with_family call f) call.keys c.args.token.now law

pub returns-in-Err-read_header_noting-clause-decided : goal.returns-in-Err-read_header_noting-clause-decided
returns-in-Err-read_header_noting-clause-decided g c =
    let o = options_of c.args.validation.now in
    let call = finding g.K.KeyFinder g.T.Claims c.args.keys.now c.args.token.now o c.args.time in
    let law = g.met.K.KeyFinder.same_family c.args.keys.now in
    let whatever = λ (l : List Algorithm). decides_by (record call { options = with_algorithms o l }) call.keys _
    (says_header call call.keys o c.args.token.now (parts_in c.in-Ok.parts) c.in-Ok.ensures l
    c.read_header_noting.new.failed (Err c.in-Err-read_header_noting.error) _ refl c.in-Err-read_header_noting.ensures) in
    any_decided call call.keys o c.args.token.now law _ whatever

pub returns-in-Err-read_header_noting-clause-accepts : goal.returns-in-Err-read_header_noting-clause-accepts
returns-in-Err-read_header_noting-clause-accepts g c =
    let o = options_of c.args.validation.now in
    let call = finding g.K.KeyFinder g.T.Claims c.args.keys.now c.args.token.now o c.args.time in
    let law = g.met.K.KeyFinder.same_family c.args.keys.now in
    let whatever = λ (l : List Algorithm). decides_by (record call { options = with_algorithms o l }) call.keys _
    (says_header call call.keys o c.args.token.now (parts_in c.in-Ok.parts) c.in-Ok.ensures l
    c.read_header_noting.new.failed (Err c.in-Err-read_header_noting.error) _ refl c.in-Err-read_header_noting.ensures) in
    any_accepts call call.keys o c.args.token.now law _ whatever

pub returns-in-Err-read_header_noting-clause-one_family : goal.returns-in-Err-read_header_noting-clause-one_family
returns-in-Err-read_header_noting-clause-one_family g c =
    let o = options_of c.args.validation.now in
    let call = finding g.K.KeyFinder g.T.Claims c.args.keys.now c.args.token.now o c.args.time in
    let law = g.met.K.KeyFinder.same_family c.args.keys.now in
    let whatever = λ (l : List Algorithm). decides_by (record call { options = with_algorithms o l }) call.keys _
    (says_header call call.keys o c.args.token.now (parts_in c.in-Ok.parts) c.in-Ok.ensures l
    c.read_header_noting.new.failed (Err c.in-Err-read_header_noting.error) _ refl c.in-Err-read_header_noting.ensures) in
    any_one call call.keys o c.args.token.now law _ whatever

pub returns-in-Err-read_header_noting-clause-fits : goal.returns-in-Err-read_header_noting-clause-fits
returns-in-Err-read_header_noting-clause-fits g c =
    let o = options_of c.args.validation.now in
    let call = finding g.K.KeyFinder g.T.Claims c.args.keys.now c.args.token.now o c.args.time in
    let law = g.met.K.KeyFinder.same_family c.args.keys.now in
    fits call call.keys o c.args.token.now law

pub returns-in-Err-read_header_noting-clause-laws : goal.returns-in-Err-read_header_noting-clause-laws
returns-in-Err-read_header_noting-clause-laws g c =
    let o = options_of c.args.validation.now in
    let call = finding g.K.KeyFinder g.T.Claims c.args.keys.now c.args.token.now o c.args.time in
    let law = g.met.K.KeyFinder.same_family c.args.keys.now in
    λ f. laws_by (with_family call f) call.keys c.args.token.now law

pub returns-in-Ok-read_claims_by_family-clause-decided : goal.returns-in-Ok-read_claims_by_family-clause-decided
returns-in-Ok-read_claims_by_family-clause-decided g c =
    let o = options_of c.args.validation.now in
    let call = finding g.K.KeyFinder g.T.Claims c.args.keys.now c.args.token.now o c.args.time in
    let law = g.met.K.KeyFinder.same_family c.args.keys.now in
    let parts = parts_in c.in-Ok.parts in
    let h = c.in-Ok-read_header_noting.header in
    let read = c.in-Ok-read_header_noting.ensures in
    let x = opened (header_call c.args.token.now) parts h read c.in-Ok.ensures no_contents in
    let has = opened_passes (header_call c.args.token.now) parts h read c.in-Ok.ensures no_contents in
    let listed = left_for (family_by call.keys h) o.algorithms in
    let decided = decides_by (record call { options = with_algorithms o listed }) call.keys _
    (says_claims call call.keys o c.args.token.now parts c.in-Ok.ensures h _ listed refl read
    c.in-Ok-read_claims_by_family.claims c.in-Ok-read_claims_by_family.ensures) in
    then_decided call call.keys o c.args.token.now law _ x has decided

pub returns-in-Ok-read_claims_by_family-clause-accepts : goal.returns-in-Ok-read_claims_by_family-clause-accepts
returns-in-Ok-read_claims_by_family-clause-accepts g c =
    let o = options_of c.args.validation.now in
    let call = finding g.K.KeyFinder g.T.Claims c.args.keys.now c.args.token.now o c.args.time in
    let law = g.met.K.KeyFinder.same_family c.args.keys.now in
    let parts = parts_in c.in-Ok.parts in
    let h = c.in-Ok-read_header_noting.header in
    let read = c.in-Ok-read_header_noting.ensures in
    let x = opened (header_call c.args.token.now) parts h read c.in-Ok.ensures no_contents in
    let has = opened_passes (header_call c.args.token.now) parts h read c.in-Ok.ensures no_contents in
    let listed = left_for (family_by call.keys h) o.algorithms in
    let decided = decides_by (record call { options = with_algorithms o listed }) call.keys _
    (says_claims call call.keys o c.args.token.now parts c.in-Ok.ensures h _ listed refl read
    c.in-Ok-read_claims_by_family.claims c.in-Ok-read_claims_by_family.ensures) in
    then_accepts call call.keys o c.args.token.now law _ x has decided

pub returns-in-Ok-read_claims_by_family-clause-one_family : goal.returns-in-Ok-read_claims_by_family-clause-one_family
returns-in-Ok-read_claims_by_family-clause-one_family g c =
    let o = options_of c.args.validation.now in
    let call = finding g.K.KeyFinder g.T.Claims c.args.keys.now c.args.token.now o c.args.time in
    let law = g.met.K.KeyFinder.same_family c.args.keys.now in
    let parts = parts_in c.in-Ok.parts in
    let h = c.in-Ok-read_header_noting.header in
    let read = c.in-Ok-read_header_noting.ensures in
    let x = opened (header_call c.args.token.now) parts h read c.in-Ok.ensures no_contents in
    let has = opened_passes (header_call c.args.token.now) parts h read c.in-Ok.ensures no_contents in
    let listed = left_for (family_by call.keys h) o.algorithms in
    let decided = decides_by (record call { options = with_algorithms o listed }) call.keys _
    (says_claims call call.keys o c.args.token.now parts c.in-Ok.ensures h _ listed refl read
    c.in-Ok-read_claims_by_family.claims c.in-Ok-read_claims_by_family.ensures) in
    then_one call call.keys o c.args.token.now law _ x has decided

pub returns-in-Ok-read_claims_by_family-clause-fits : goal.returns-in-Ok-read_claims_by_family-clause-fits
returns-in-Ok-read_claims_by_family-clause-fits g c =
    let o = options_of c.args.validation.now in
    let call = finding g.K.KeyFinder g.T.Claims c.args.keys.now c.args.token.now o c.args.time in
    let law = g.met.K.KeyFinder.same_family c.args.keys.now in
    fits call call.keys o c.args.token.now law

pub returns-in-Ok-read_claims_by_family-clause-laws : goal.returns-in-Ok-read_claims_by_family-clause-laws
returns-in-Ok-read_claims_by_family-clause-laws g c =
    let o = options_of c.args.validation.now in
    let call = finding g.K.KeyFinder g.T.Claims c.args.keys.now c.args.token.now o c.args.time in
    let law = g.met.K.KeyFinder.same_family c.args.keys.now in
    λ f. laws_by (with_family call f) call.keys c.args.token.now law

pub returns-in-Err-read_claims_by_family-clause-decided : goal.returns-in-Err-read_claims_by_family-clause-decided
returns-in-Err-read_claims_by_family-clause-decided g c =
    let o = options_of c.args.validation.now in
    let call = finding g.K.KeyFinder g.T.Claims c.args.keys.now c.args.token.now o c.args.time in
    let law = g.met.K.KeyFinder.same_family c.args.keys.now in
    let parts = parts_in c.in-Ok.parts in
    let h = c.in-Ok-read_header_noting.header in
    let read = c.in-Ok-read_header_noting.ensures in
    let x = opened (header_call c.args.token.now) parts h read c.in-Ok.ensures no_contents in
    let has = opened_passes (header_call c.args.token.now) parts h read c.in-Ok.ensures no_contents in
    let listed = left_for (family_by call.keys h) o.algorithms in
    let decided = decides_by (record call { options = with_algorithms o listed }) call.keys _
    (says_refused call call.keys o c.args.token.now parts c.in-Ok.ensures h _ listed refl read
    c.in-Err-read_claims_by_family.refusal c.in-Err-read_claims_by_family.ensures) in
    then_decided call call.keys o c.args.token.now law _ x has decided

pub returns-in-Err-read_claims_by_family-clause-accepts : goal.returns-in-Err-read_claims_by_family-clause-accepts
returns-in-Err-read_claims_by_family-clause-accepts g c =
    let o = options_of c.args.validation.now in
    let call = finding g.K.KeyFinder g.T.Claims c.args.keys.now c.args.token.now o c.args.time in
    let law = g.met.K.KeyFinder.same_family c.args.keys.now in
    let parts = parts_in c.in-Ok.parts in
    let h = c.in-Ok-read_header_noting.header in
    let read = c.in-Ok-read_header_noting.ensures in
    let x = opened (header_call c.args.token.now) parts h read c.in-Ok.ensures no_contents in
    let has = opened_passes (header_call c.args.token.now) parts h read c.in-Ok.ensures no_contents in
    let listed = left_for (family_by call.keys h) o.algorithms in
    let decided = decides_by (record call { options = with_algorithms o listed }) call.keys _
    (says_refused call call.keys o c.args.token.now parts c.in-Ok.ensures h _ listed refl read
    c.in-Err-read_claims_by_family.refusal c.in-Err-read_claims_by_family.ensures) in
    then_accepts call call.keys o c.args.token.now law _ x has decided

pub returns-in-Err-read_claims_by_family-clause-one_family : goal.returns-in-Err-read_claims_by_family-clause-one_family
returns-in-Err-read_claims_by_family-clause-one_family g c =
    let o = options_of c.args.validation.now in
    let call = finding g.K.KeyFinder g.T.Claims c.args.keys.now c.args.token.now o c.args.time in
    let law = g.met.K.KeyFinder.same_family c.args.keys.now in
    let parts = parts_in c.in-Ok.parts in
    let h = c.in-Ok-read_header_noting.header in
    let read = c.in-Ok-read_header_noting.ensures in
    let x = opened (header_call c.args.token.now) parts h read c.in-Ok.ensures no_contents in
    let has = opened_passes (header_call c.args.token.now) parts h read c.in-Ok.ensures no_contents in
    let listed = left_for (family_by call.keys h) o.algorithms in
    let decided = decides_by (record call { options = with_algorithms o listed }) call.keys _
    (says_refused call call.keys o c.args.token.now parts c.in-Ok.ensures h _ listed refl read
    c.in-Err-read_claims_by_family.refusal c.in-Err-read_claims_by_family.ensures) in
    then_one call call.keys o c.args.token.now law _ x has decided

pub returns-in-Err-read_claims_by_family-clause-fits : goal.returns-in-Err-read_claims_by_family-clause-fits
returns-in-Err-read_claims_by_family-clause-fits g c =
    let o = options_of c.args.validation.now in
    let call = finding g.K.KeyFinder g.T.Claims c.args.keys.now c.args.token.now o c.args.time in
    let law = g.met.K.KeyFinder.same_family c.args.keys.now in
    fits call call.keys o c.args.token.now law

pub returns-in-Err-read_claims_by_family-clause-laws : goal.returns-in-Err-read_claims_by_family-clause-laws
returns-in-Err-read_claims_by_family-clause-laws g c =
    let o = options_of c.args.validation.now in
    let call = finding g.K.KeyFinder g.T.Claims c.args.keys.now c.args.token.now o c.args.time in
    let law = g.met.K.KeyFinder.same_family c.args.keys.now in
    λ f. laws_by (with_family call f) call.keys c.args.token.now law
