use Rattle.std.proofs.Common.{◌≡◌, ℕ, List, Ok, rules, arith}
use Rattle.update_model.specs.Form.{BodyData}
use Rattle.update_codec.specs.Reading.{before_ops_at}
use Rattle.update_codec.proofs.TakesLemmas.{before_ops_takes}
use Rattle.update_codec.proofs.decoding.before_ops_of.Goals as goal

-- what was read is in form
pub invariant_of-result : goal.invariant_of-result
unfolding before_ops_at
invariant_of-result c =
    let made : BodyData × List ℕ = (record { database = c.in_ok-database.database; author = c.in_ok-author.author; preds = c.from_vec-preds.result; ops = c.from_vec-ops.result; note = c.first_note-note.result }, c.in_ok-preds.rest.now) in
    let read : before_ops_at c.args.bytes.now ≡ Ok made = search rules in
    (before_ops_takes c.args.bytes.now made (λ i. omega (arith, c.type_inv.bytes i)) read).1
