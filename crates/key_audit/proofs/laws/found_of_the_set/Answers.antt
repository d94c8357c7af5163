use Rattle.key_audit.proofs.Once.{of_the_set}
use Rattle.key_audit.proofs.laws.found_of_the_set.Goals as goal

pub returns : goal.returns
returns c members others doubles same are = of_the_set members others (λ update. (same update).0) (λ update. (same update).1) doubles are
