use Rattle.confluence_test.proofs.Refusals.{taken_or_refused}
use Rattle.confluence_test.proofs.laws.taken_or_refused.Goals as goal

pub returns : goal.returns
returns c = taken_or_refused (record { one_schema = c.one_schema.ensures; one_fault = c.one_fault.ensures; no_fault = c.no_fault.ensures })
