use Rattle.key_audit.proofs.Certificates.{confirmed}
use Rattle.key_audit.proofs.confirming.confirms_doubled.Goals as goal

pub returns : goal.returns
returns c =
    let one = rw c.in-Some.is at c.in_ok-one.ensures in
    let two = rw c.in-Some-2.is at c.in_ok-two.ensures in
    confirmed c.args.first.now c.args.second.now _ _ c.doubled_key.result one.0 two.0 one.1 two.1 c.doubled_key.ensures
