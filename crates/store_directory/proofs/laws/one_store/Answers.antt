use Rattle.store_directory.proofs.Readings.{same_store}
use Rattle.store_directory.proofs.laws.one_store.Goals as goal

pub returns : goal.returns
returns c = same_store c.one_schema.ensures
