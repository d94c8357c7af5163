use Rattle.txn_text.proofs.Unique.{transaction_one}
use Rattle.txn_text.proofs.laws.one_transaction.Goals as goal

pub returns : goal.returns
returns c = transaction_one
