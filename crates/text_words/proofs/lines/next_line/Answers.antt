use Rattle.std.proofs.Common.{arith, []}
use Rattle.std.proofs.lemmas.Bool.Decides.{nat_tests}
use Rattle.text_words.proofs.LinesLemmas.{first_and_rest, begins_at_lf, begins_at_end}
use Rattle.text_words.proofs.lines.next_line.Goals as goal

pub returns-in-None-clause-begins : goal.returns-in-None-clause-begins
returns-in-None-clause-begins c = begins_at_end c.args.text.now (grind (arith, nat_tests, c.if-is_empty.false, c.is_empty.ensures)) c.in-None.ensures

pub returns-in-None-clause-first : goal.returns-in-None-clause-first
returns-in-None-clause-first c = first_and_rest c.args.text.now c.args.text.now [] (returns-in-None-clause-begins c)

pub returns-in-Some-clause-begins : goal.returns-in-Some-clause-begins
returns-in-Some-clause-begins c = begins_at_lf c.args.text.now c.without_cr.result.now c.in-Some.place c.in-Some.ensures c.without_cr.ensures

pub returns-in-Some-clause-first : goal.returns-in-Some-clause-first
returns-in-Some-clause-first c = first_and_rest c.args.text.now c.without_cr.result.now _ (returns-in-Some-clause-begins c)
