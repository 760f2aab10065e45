use Rattle.std.proofs.Common.{sym, ◌∙◌, arith}
use Rattle.json.specs.Lex.{between, in_word}
use Rattle.jwt_unique_names.proofs.Bytes.{length-tail, lex_none, word_ends, word_goes_on}
use Rattle.jwt_unique_names.proofs.after_word.Goals as goal

pub returns-then-ends_word-clause-same : goal.returns-then-ends_word-clause-same
returns-then-ends_word-clause-same c =
    c.loop-rest.invariant.same ∙ word_ends c.loop-rest.rest.now c.in-len1-up.len_at_least (sym c.ends_word.ensures ∙ c.if-ends_word.true)

pub loop-rest-preserved : goal.loop-rest-preserved
loop-rest-preserved c =
    let s = c.loop-rest.rest.now in
    record {
      same = c.loop-rest.invariant.same ∙ word_goes_on s c.in-len1-up.len_at_least (sym c.ends_word.ensures ∙ c.if-ends_word.false);
      shorter = omega (arith, length-tail s c.in-len1-up.len_at_least);
    }

pub returns-clause-same : goal.returns-clause-same
returns-clause-same c = c.loop-rest.invariant.same ∙ lex_none in_word between c.loop-rest.rest.now c.in_default.len_below
