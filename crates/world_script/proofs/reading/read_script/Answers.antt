use Rattle.world_script.proofs.Onward.{answers}
use Rattle.world_script.proofs.reading.read_script.Goals as goal

pub returns-clause-only : goal.returns-clause-only
returns-clause-only g c = answers c.one_script.ensures c.no_fault.ensures _ c.args.text.now c.read_any.result c.read_any.ensures.found c.read_any.ensures.fault
