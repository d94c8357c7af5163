use Rattle.std.proofs.Common.{arith, rules}
use Rattle.world_script.proofs.Onward.{body_none}
use Rattle.world_script.proofs.reading.read_body.Goals as goal

pub returns-in_default-clause-fault : goal.returns-in_default-clause-fault
returns-in_default-clause-fault c = body_none c.args.schema.now c.args.number c.args.text.now c.at_line.result (search rules) c.at_line.ensures

pub read_lines-requires-clause-place : goal.read_lines-requires-clause-place
read_lines-requires-clause-place c =
    let shorter = c.in-Some.ensures.shorter in
    record { replicas = c.in-Some-heading_of.ensures.few; opened = omega arith; number = omega arith }
