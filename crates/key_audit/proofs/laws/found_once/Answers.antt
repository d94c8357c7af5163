use Rattle.key_audit.proofs.Once.{once}
use Rattle.key_audit.proofs.laws.found_once.Goals as goal

pub returns : goal.returns
returns c members doubles others closed one two = once members doubles others closed one two
