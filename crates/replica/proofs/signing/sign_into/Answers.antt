use Rattle.replica.proofs.Reserved.{signs_least}
use Rattle.replica.proofs.signing.sign_into.Goals as goal

pub returns-in-Ok-clause-key : goal.returns-in-Ok-clause-key
returns-in-Ok-clause-key g c = signs_least c.args.key.now c.sign.new.self c.in-Ok._index c.in-Ok.ensures.reserves
