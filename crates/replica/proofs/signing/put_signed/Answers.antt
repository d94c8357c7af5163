use Rattle.std.proofs.Common.{refl, arith}
use Rattle.replica.proofs.signing.put_signed.Goals as goal

pub returns-clause-block : goal.returns-clause-block
returns-clause-block c = record { len = refl; each = λ i. omega (arith, c.type_inv.signature i) }
