use Rattle.std.proofs.Common.{◌≡◌, ℕ, List, Ok, rules, arith}
use Rattle.update_model.specs.Form.{BodyData}
use Rattle.update_codec.specs.Reading.{body_at}
use Rattle.update_codec.proofs.TakesLemmas.{body_takes}
use Rattle.update_codec.proofs.decoding.body_of.Goals as goal

-- what was read is in form
pub invariant_of-result : goal.invariant_of-result
unfolding body_at
invariant_of-result c =
    let made : BodyData × List ℕ = (record { database = c.before-2.inside.database; author = c.before-2.inside.author; preds = c.before-2.inside.preds; ops = c.from_vec-ops.result; note = c.in_ok-note.note }, c.in_ok-note.rest.now) in
    let read : body_at c.args.bytes.now ≡ Ok made = search rules in
    (body_takes c.args.bytes.now made (λ i. omega (arith, c.type_inv.bytes i)) read).1
