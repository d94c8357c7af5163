use Rattle.std.proofs.Common.{◌≡◌, ◌==◌, true, false, arith, rules}
use Rattle.std.proofs.lemmas.Bool.Decides.{nat_tests}
use Rattle.explanations.specs.Heard.{hearing_of}
use Rattle.explanations.proofs.Hearings.{over_heard, byte_heard, line_heard}
use Rattle.explanations.proofs.heard_lines.HeardLines.hear_next.Goals as goal

pub returns-then-self-clause-heard : goal.returns-then-self-clause-heard
returns-then-self-clause-heard c given has = over_heard (hearing_of c.args.self.now) given c.args.byte c.if-self.true has

pub returns-then-byte-eq10-clause-heard : goal.returns-then-byte-eq10-clause-heard
returns-then-byte-eq10-clause-heard c given has =
    let lf : (c.args.byte == 10) ≡ true = let e = c.if-byte-eq10.true in grind (arith, nat_tests, e) in
    line_heard (hearing_of c.args.self.now) (hearing_of c.end_line.new.self) given c.args.byte lf c.if-self.false c.end_line.ensures.heard c.end_line.ensures.limit c.end_line.ensures.all c.end_line.ensures.line c.end_line.ensures.passes has

pub returns-clause-heard : goal.returns-clause-heard
returns-clause-heard c given has =
    let other : (c.args.byte == 10) ≡ false = let e = c.if-byte-eq10.false in grind (arith, nat_tests, e) in
    byte_heard (hearing_of c.args.self.now) (hearing_of c.hear_byte.new.self) given c.args.byte other c.if-self.false (search rules) c.hear_byte.ensures.limit c.hear_byte.ensures.line c.hear_byte.ensures.passed has
