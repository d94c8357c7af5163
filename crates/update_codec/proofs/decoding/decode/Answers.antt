use Rattle.std.proofs.Common.{arith, subst}
use Rattle.update_codec.specs.Outcome.{Answers}
use Rattle.update_codec.proofs.Causes.{first_again, found_of, fault_of}
use Rattle.update_codec.proofs.decoding.decode.Goals as goal

pub returns-clause-found : goal.returns-clause-found
returns-clause-found c = found_of c.args.bytes.now c.read_update.result (λ i. omega (arith, c.type_inv.bytes i)) c.read_update.ensures

pub returns-clause-only : goal.returns-clause-only
returns-clause-only c = λ update s. subst (λ answer. Answers c.read_update.result answer) (first_again c.args.bytes.now update s) c.read_update.ensures

pub returns-clause-fault : goal.returns-clause-fault
returns-clause-fault c = fault_of c.args.bytes.now c.read_update.result (λ i. omega (arith, c.type_inv.bytes i)) c.read_update.ensures
