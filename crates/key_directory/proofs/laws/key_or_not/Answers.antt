use Rattle.key_directory.proofs.Readings.{bad_key-not-read, no_key-not-bad, no_key-not-read}
use Rattle.key_directory.proofs.laws.key_or_not.Goals as goal

pub returns-clause-not_bad : goal.returns-clause-not_bad
returns-clause-not_bad c = no_key-not-bad

pub returns-clause-no_key : goal.returns-clause-no_key
returns-clause-no_key c = no_key-not-read

pub returns-clause-bad_key : goal.returns-clause-bad_key
returns-clause-bad_key c = bad_key-not-read
