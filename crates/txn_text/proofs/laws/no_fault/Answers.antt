use Rattle.txn_text.proofs.Unique.{read_no_fault}
use Rattle.txn_text.proofs.laws.no_fault.Goals as goal

pub returns : goal.returns
returns c = read_no_fault
