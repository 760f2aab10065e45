use Rattle.std.proofs.Common.{◌≢◌, get_or, length, ap, sym, ◌∙◌, arith}
use Rattle.std.proofs.lemmas.List.{length-drop}
use Rattle.json.specs.Lex.{lex, between, in_string}
use Rattle.jwt_unique_names.proofs.Bytes.{tail, length-tail, lex_none, string_ends, string_escapes, string_goes_on}
use Rattle.jwt_unique_names.proofs.after_string.Goals as goal

pub returns-in-34-clause-same : goal.returns-in-34-clause-same
returns-in-34-clause-same c = c.loop-rest.invariant.same ∙ string_ends c.loop-rest.rest.now c.in-len1-up.len_at_least c.in-34.is

pub loop-rest-preserved-in-92 : goal.loop-rest-preserved-in-92
loop-rest-preserved-in-92 c =
    let s = c.loop-rest.rest.now in
    record {
      same = c.loop-rest.invariant.same ∙ string_escapes s c.in-len1-up.len_at_least c.in-92.is ∙ ap (lex in_string) (sym c.without_first-rest.ensures);
      shorter = omega (arith, length-tail s c.in-len1-up.len_at_least, length-drop 1 (tail s), ap length c.without_first-rest.ensures);
    }

pub loop-rest-preserved : goal.loop-rest-preserved
loop-rest-preserved c =
    let s = c.loop-rest.rest.now in
    let no_quote : get_or s 0 0 ≢ 34 = λ e. omega arith in
    let no_escape : get_or s 0 0 ≢ 92 = λ e. omega arith in
    record {
      same = c.loop-rest.invariant.same ∙ string_goes_on s c.in-len1-up.len_at_least no_quote no_escape;
      shorter = omega (arith, length-tail s c.in-len1-up.len_at_least);
    }

pub returns-clause-same : goal.returns-clause-same
returns-clause-same c = c.loop-rest.invariant.same ∙ lex_none in_string between c.loop-rest.rest.now c.in_default.len_below
