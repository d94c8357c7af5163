use Rattle.query.proofs.Saying.{only_from}
use Rattle.query.proofs.reading.read_query.Goals as goal

pub returns-clause-only : goal.returns-clause-only
returns-clause-only c =
    only_from c.one_query.ensures c.no_fault.ensures c.args.schema.now c.args.text.now c.read_text.result c.read_text.ensures.found c.read_text.ensures.fault
