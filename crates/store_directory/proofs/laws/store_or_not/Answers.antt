use Rattle.store_directory.proofs.Readings.{bad_store-not-read, no_store-not-bad, no_store-not-read}
use Rattle.store_directory.proofs.laws.store_or_not.Goals as goal

pub returns-clause-not_bad : goal.returns-clause-not_bad
returns-clause-not_bad c = no_store-not-bad

pub returns-clause-no_store : goal.returns-clause-no_store
returns-clause-no_store c = no_store-not-read

pub returns-clause-bad_store : goal.returns-clause-bad_store
returns-clause-bad_store c = bad_store-not-read
