use Rattle.std.proofs.Common.{◌≡◌, ◌≤◌, length, take, arith}
use Rattle.query.specs.Pieces.{spot_after}
use Rattle.query.proofs.Saying.{cause_broken}
use Rattle.query.proofs.reading.read_text.Goals as goal

pub returns-in-Some-clause-fault : goal.returns-in-Some-clause-fault
returns-in-Some-clause-fault c =
    let few : length c.args.text.now ≤ 4194304 = omega arith in
    let spot : c.spot_after.result ≡ spot_after 1 1 (take c.in-Some.front c.args.text.now) = grind (arith, c.spot_after.ensures) in
    cause_broken c.args.schema.now c.args.text.now c.in-Some.front c.spot_after.result c.fault_at.result few c.in-Some.ensures spot c.fault_at.ensures
