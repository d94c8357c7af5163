use Rattle.std.proofs.Common.{◌≡◌, Ok, rules, arith}
use Rattle.update_model.specs.Form.{UpdateData}
use Rattle.update_codec.specs.Reading.{first_of}
use Rattle.update_codec.proofs.Causes.{first_spells}
use Rattle.update_codec.proofs.decoding.read_update.Goals as goal

-- what was read is in form
pub invariant_of-result : goal.invariant_of-result
invariant_of-result c =
    let made : UpdateData = record { body = c.in_ok-body.body; signature = c.from_vec-signature.result } in
    let read : first_of c.args.bytes.now ≡ Ok made = search rules in
    (first_spells c.args.bytes.now made (λ i. omega (arith, c.type_inv.bytes i)) read).form
