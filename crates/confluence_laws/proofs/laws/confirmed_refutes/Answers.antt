use Rattle.std.proofs.Common.{reverse}
use Rattle.confluence_laws.proofs.Confirmed.{broken}
use Rattle.confluence_laws.proofs.laws.confirmed_refutes.Goals as goal

pub returns : goal.returns
returns c rules earlier claim example h confluent = broken rules earlier claim (reverse example.base) (reverse example.left) (reverse example.right) h confluent
