use Rattle.confluence_test.proofs.Refusals.{refuses_once}
use Rattle.confluence_test.proofs.laws.refused_once.Goals as goal

pub returns : goal.returns
returns c = refuses_once (record { one_schema = c.one_schema.ensures; one_fault = c.one_fault.ensures; no_fault = c.no_fault.ensures })
