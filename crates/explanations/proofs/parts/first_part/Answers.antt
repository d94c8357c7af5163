use Rattle.std.proofs.Common.{arith}
use Rattle.std.proofs.lemmas.Bool.Decides.{nat_tests}
use Rattle.explanations.proofs.FirstPart.{part_at, part_without, none_left}
use Rattle.explanations.proofs.parts.first_part.Goals as goal

pub returns-in-None-clause-first : goal.returns-in-None-clause-first
returns-in-None-clause-first c = part_without c.args.end c.args.text.now (grind (arith, nat_tests, c.if-is_empty.false, c.is_empty.ensures)) c.in-None.ensures

pub returns-in-Some-clause-first : goal.returns-in-Some-clause-first
returns-in-Some-clause-first c = part_at c.args.end c.args.text.now c.in-Some.place c.in-Some.ensures

pub returns-then-is_empty-clause-none : goal.returns-then-is_empty-clause-none
returns-then-is_empty-clause-none c = none_left c.args.end c.args.text.now (grind (arith, nat_tests, c.if-is_empty.true, c.is_empty.ensures))
