use Rattle.world_commands.proofs.Reaching.{are_reached, by_lines}
use Rattle.world_commands.specs.Answers.{types_of}
use Rattle.world_commands.proofs.laws.reported_worlds_are_reached.Goals as goal

pub returns-clause-reached : goal.returns-clause-reached
returns-clause-reached c = are_reached

pub returns-clause-keys : goal.returns-clause-keys
returns-clause-keys c ask audit script text report =
    let reached = by_lines ask report.first script.lines report.last report.missed report.happen in
    c.each_replica_has_its_own_key.ensures.kept ask report.schema report.first report.last (types_of script) script.number report.new reached report.keys
