use Rattle.std.proofs.Common.{◌≢◌, get_or, ap, sym, ◌∙◌, arith}
use Rattle.jwt_unique_names.specs.private_clauses.Counts.{colons}
use Rattle.jwt_unique_names.proofs.Bytes.{length-tail, colons_none, after_quote, after_colon, after_mark, word_begins}
use Rattle.jwt_unique_names.proofs.colons.Goals as goal

pub loop-rest-preserved-in-34 : goal.loop-rest-preserved-in-34
loop-rest-preserved-in-34 c =
    let s = c.loop-rest.rest.now in
    record {
      counted = omega (arith, after_quote s c.in-len1-up.len_at_least c.in-34.is, ap colons c.after_string-rest.ensures.same);
      shorter = omega (arith, length-tail s c.in-len1-up.len_at_least, c.after_string-rest.ensures.shorter);
    }

pub loop-rest-preserved-in-58 : goal.loop-rest-preserved-in-58
loop-rest-preserved-in-58 c =
    let s = c.loop-rest.rest.now in
    record {
      counted = omega (arith, after_colon s c.in-len1-up.len_at_least c.in-58.is);
      shorter = omega (arith, length-tail s c.in-len1-up.len_at_least);
    }

pub loop-rest-preserved-in_default-byte : goal.loop-rest-preserved-in_default-byte
loop-rest-preserved-in_default-byte c =
    let s = c.loop-rest.rest.now in
    let no_colon : get_or s 0 0 ≢ 58 = λ e. omega arith in
    record {
      counted = omega (arith, after_mark s c.in-len1-up.len_at_least no_colon (sym c.ends_word.ensures ∙ c.if-ends_word.true));
      shorter = omega (arith, length-tail s c.in-len1-up.len_at_least);
    }

pub loop-rest-preserved : goal.loop-rest-preserved
loop-rest-preserved c =
    let s = c.loop-rest.rest.now in
    let no_quote : get_or s 0 0 ≢ 34 = λ e. omega arith in
    record {
      counted = omega (arith, word_begins s c.in-len1-up.len_at_least no_quote (sym c.ends_word.ensures ∙ c.if-ends_word.false), ap colons c.after_word-rest.ensures.same);
      shorter = omega (arith, length-tail s c.in-len1-up.len_at_least, c.after_word-rest.ensures.shorter);
    }

pub returns : goal.returns
returns c = omega (arith, colons_none c.loop-rest.rest.now c.in_default.len_below)
