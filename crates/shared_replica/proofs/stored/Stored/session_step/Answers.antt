use Rattle.std.proofs.Common.{rules, ◌≡◌, ◌+◌, ◌-◌, [], ◌∷◌, ◌++◌, length, true, false, refl, sym, ◌∙◌, arith}
use Rattle.bec_disk.proofs.Moments.{same_disk}
use Rattle.shared_replica.specs.declared.entry.Run.{Run}
use Rattle.shared_replica.specs.Sessions.{met_store}
use Rattle.shared_replica.proofs.Going.{store_then}
use Rattle.shared_replica.proofs.Growing.{added_stored, added_grows, fault_stored, fault_grows, nothing_stored, nothing_grows}
use Rattle.shared_replica.proofs.Lists.{met_few}
use Rattle.shared_replica.proofs.Stepping.{belongs_inside, belongs_listed, count_added, gains_listed, none_added, same_after, steps_listed}
use Rattle.shared_replica.proofs.stored.Stored.session_step.Goals as goal

pub returns-in-Err-clause-grows : goal.returns-in-Err-clause-grows
returns-in-Err-clause-grows g c =
    let inside = c.self.inside in let same : c.reserve.new.self.items ≡ inside.runs.items = search rules in
    nothing_grows _ _ _ _ inside.replica inside.replica c.self.invariant refl refl (omega arith) (same_disk _ _ refl) c.self.invariant.on_disk _ same refl _ c.self.view_is c.args.seat c.args.act _ refl

pub step-answer-requires-clause-belongs : goal.step-answer-requires-clause-belongs
step-answer-requires-clause-belongs g c = belongs_inside _ _ _ _ _ c.self.invariant _ c.self.view_is _ c.len-before.ensures.history.members.within c.requires.belongs

pub overflow_add-self : goal.overflow_add-self
overflow_add-self g c = let n : c.len-then-ended_by_store.result ≡ length c.push_reserved.new.self.items = search rules in
    let more : length c.push_reserved.new.self.items ≡ length c.self.inside.runs.items + 1 = search rules in
    let f = c.self.invariant.faults_are in let m = met_few c.self.inside.runs.items in omega arith

pub invariant_of-self-then-ended_by_store : goal.invariant_of-self-then-ended_by_store
invariant_of-self-then-ended_by_store g c =
    let inside = c.self.inside in let e = c.step-answer.ensures in
    let count = count_added inside.replica.history.members e.keeps.added c.step-answer.new.holder.history.members _ _ e.keeps.members c.len-before.ensures.value c.len.ensures.value in
    let r : Run = record { seat = c.args.seat; act = c.args.act; count = c.len.result - c.len-before.result; fault = true } in
    let more : c.push_reserved.new.self.items ≡ inside.runs.items ++ r ∷ [] = search rules in
    let met : met_store c.step-answer.result ≡ true = sym c.ended_by_store.ensures ∙ c.if-ended_by_store.true in
    let rose = store_then c.step-answer.result _ e.store met in
    fault_stored _ _ _ _ inside.replica _ c.self.invariant e.keeps.store.node e.keeps.store.schema e.later (same_after _ _ e.keeps c.self.invariant.on_disk) c.len.ensures.on_disk _ r e.keeps.added more count e.keeps.members refl rose

pub invariant_of-self-then-count-gt0 : goal.invariant_of-self-then-count-gt0
invariant_of-self-then-count-gt0 g c =
    let inside = c.self.inside in let e = c.step-answer.ensures in
    let count = count_added inside.replica.history.members e.keeps.added c.step-answer.new.holder.history.members _ _ e.keeps.members c.len-before.ensures.value c.len.ensures.value in
    let r : Run = record { seat = c.args.seat; act = c.args.act; count = c.len.result - c.len-before.result; fault = false } in
    let more : c.push_reserved-then-count-gt0.new.self.items ≡ inside.runs.items ++ r ∷ [] = search rules in
    added_stored _ _ _ _ inside.replica _ c.self.invariant e.keeps.store.node e.keeps.store.schema e.later (same_after _ _ e.keeps c.self.invariant.on_disk) c.len.ensures.on_disk _ r e.keeps.added more count e.keeps.members refl

pub invariant_of-self-else-count-gt0 : goal.invariant_of-self-else-count-gt0
invariant_of-self-else-count-gt0 g c =
    let inside = c.self.inside in let e = c.step-answer.ensures in
    let count = count_added inside.replica.history.members e.keeps.added c.step-answer.new.holder.history.members _ _ e.keeps.members c.len-before.ensures.value c.len.ensures.value in
    let same_runs : c.reserve.new.self.items ≡ inside.runs.items = search rules in
    let none : 0 ≡ length e.keeps.added = omega (arith, count, c.if-count-gt0.false) in
    let same = none_added inside.replica.history.members e.keeps.added c.step-answer.new.holder.history.members e.keeps.members none in
    nothing_stored _ _ _ _ inside.replica _ c.self.invariant e.keeps.store.node e.keeps.store.schema e.later (same_after _ _ e.keeps c.self.invariant.on_disk) c.len.ensures.on_disk _ same_runs same

pub returns-then-ended_by_store-clause-grows : goal.returns-then-ended_by_store-clause-grows
returns-then-ended_by_store-clause-grows g c =
    let inside = c.self.inside in let e = c.step-answer.ensures in
    let count = count_added inside.replica.history.members e.keeps.added c.step-answer.new.holder.history.members _ _ e.keeps.members c.len-before.ensures.value c.len.ensures.value in
    let r : Run = record { seat = c.args.seat; act = c.args.act; count = c.len.result - c.len-before.result; fault = true } in
    let more : c.push_reserved.new.self.items ≡ inside.runs.items ++ r ∷ [] = search rules in
    let met : met_store c.step-answer.result ≡ true = sym c.ended_by_store.ensures ∙ c.if-ended_by_store.true in
    let rose = store_then c.step-answer.result _ e.store met in
    fault_grows _ _ _ _ inside.replica _ c.self.invariant e.keeps.store.node e.keeps.store.schema e.later (same_after _ _ e.keeps c.self.invariant.on_disk) c.len.ensures.on_disk _ r e.keeps.added more count e.keeps.members _ c.self.view_is refl rose _ met

pub returns-then-ended_by_store-clause-steps : goal.returns-then-ended_by_store-clause-steps
returns-then-ended_by_store-clause-steps g c =
    let inside = c.self.inside in let e = c.step-answer.ensures in
    let count = count_added inside.replica.history.members e.keeps.added c.step-answer.new.holder.history.members _ _ e.keeps.members c.len-before.ensures.value c.len.ensures.value in
    let r : Run = record { seat = c.args.seat; act = c.args.act; count = c.len.result - c.len-before.result; fault = true } in
    let more : c.push_reserved.new.self.items ≡ inside.runs.items ++ r ∷ [] = search rules in
    let met : met_store c.step-answer.result ≡ true = sym c.ended_by_store.ensures ∙ c.if-ended_by_store.true in
    let rose = store_then c.step-answer.result _ e.store met in
    steps_listed _ _ _ _ _ _ inside.replica c.step-answer.new.holder c.self.invariant (fault_stored _ _ _ _ inside.replica _ c.self.invariant e.keeps.store.node e.keeps.store.schema e.later (same_after _ _ e.keeps c.self.invariant.on_disk) c.len.ensures.on_disk _ r e.keeps.added more count e.keeps.members refl rose) _ c.self.view_is c.args.session.now c.step-answer.new.self c.args.frame c.step-answer.result e.steps

pub returns-then-ended_by_store-clause-belongs : goal.returns-then-ended_by_store-clause-belongs
returns-then-ended_by_store-clause-belongs g c =
    let inside = c.self.inside in let e = c.step-answer.ensures in
    let count = count_added inside.replica.history.members e.keeps.added c.step-answer.new.holder.history.members _ _ e.keeps.members c.len-before.ensures.value c.len.ensures.value in
    let r : Run = record { seat = c.args.seat; act = c.args.act; count = c.len.result - c.len-before.result; fault = true } in
    let more : c.push_reserved.new.self.items ≡ inside.runs.items ++ r ∷ [] = search rules in
    let met : met_store c.step-answer.result ≡ true = sym c.ended_by_store.ensures ∙ c.if-ended_by_store.true in
    let rose = store_then c.step-answer.result _ e.store met in
    belongs_listed _ _ _ _ _ _ inside.replica c.step-answer.new.holder c.self.invariant (fault_stored _ _ _ _ inside.replica _ c.self.invariant e.keeps.store.node e.keeps.store.schema e.later (same_after _ _ e.keeps c.self.invariant.on_disk) c.len.ensures.on_disk _ r e.keeps.added more count e.keeps.members refl rose) _ c.self.view_is _ e.belongs

pub returns-then-ended_by_store-clause-gains : goal.returns-then-ended_by_store-clause-gains
returns-then-ended_by_store-clause-gains g c =
    let inside = c.self.inside in let e = c.step-answer.ensures in
    let count = count_added inside.replica.history.members e.keeps.added c.step-answer.new.holder.history.members _ _ e.keeps.members c.len-before.ensures.value c.len.ensures.value in
    let r : Run = record { seat = c.args.seat; act = c.args.act; count = c.len.result - c.len-before.result; fault = true } in
    let more : c.push_reserved.new.self.items ≡ inside.runs.items ++ r ∷ [] = search rules in
    let met : met_store c.step-answer.result ≡ true = sym c.ended_by_store.ensures ∙ c.if-ended_by_store.true in
    let rose = store_then c.step-answer.result _ e.store met in
    gains_listed _ _ _ _ _ _ inside.replica c.step-answer.new.holder c.self.invariant (fault_stored _ _ _ _ inside.replica _ c.self.invariant e.keeps.store.node e.keeps.store.schema e.later (same_after _ _ e.keeps c.self.invariant.on_disk) c.len.ensures.on_disk _ r e.keeps.added more count e.keeps.members refl rose) _ c.self.view_is _ e.grows

pub returns-then-count-gt0-clause-grows : goal.returns-then-count-gt0-clause-grows
returns-then-count-gt0-clause-grows g c =
    let inside = c.self.inside in let e = c.step-answer.ensures in
    let count = count_added inside.replica.history.members e.keeps.added c.step-answer.new.holder.history.members _ _ e.keeps.members c.len-before.ensures.value c.len.ensures.value in
    let r : Run = record { seat = c.args.seat; act = c.args.act; count = c.len.result - c.len-before.result; fault = false } in
    let more : c.push_reserved-then-count-gt0.new.self.items ≡ inside.runs.items ++ r ∷ [] = search rules in
    let met : met_store c.step-answer.result ≡ false = sym c.ended_by_store.ensures ∙ c.if-ended_by_store.false in
    added_grows _ _ _ _ inside.replica _ c.self.invariant e.keeps.store.node e.keeps.store.schema e.later (same_after _ _ e.keeps c.self.invariant.on_disk) c.len.ensures.on_disk _ r e.keeps.added more count e.keeps.members _ c.self.view_is refl _ met

pub returns-then-count-gt0-clause-steps : goal.returns-then-count-gt0-clause-steps
returns-then-count-gt0-clause-steps g c =
    let inside = c.self.inside in let e = c.step-answer.ensures in
    let count = count_added inside.replica.history.members e.keeps.added c.step-answer.new.holder.history.members _ _ e.keeps.members c.len-before.ensures.value c.len.ensures.value in
    let r : Run = record { seat = c.args.seat; act = c.args.act; count = c.len.result - c.len-before.result; fault = false } in
    let more : c.push_reserved-then-count-gt0.new.self.items ≡ inside.runs.items ++ r ∷ [] = search rules in
    steps_listed _ _ _ _ _ _ inside.replica c.step-answer.new.holder c.self.invariant (added_stored _ _ _ _ inside.replica _ c.self.invariant e.keeps.store.node e.keeps.store.schema e.later (same_after _ _ e.keeps c.self.invariant.on_disk) c.len.ensures.on_disk _ r e.keeps.added more count e.keeps.members refl) _ c.self.view_is c.args.session.now c.step-answer.new.self c.args.frame c.step-answer.result e.steps

pub returns-then-count-gt0-clause-belongs : goal.returns-then-count-gt0-clause-belongs
returns-then-count-gt0-clause-belongs g c =
    let inside = c.self.inside in let e = c.step-answer.ensures in
    let count = count_added inside.replica.history.members e.keeps.added c.step-answer.new.holder.history.members _ _ e.keeps.members c.len-before.ensures.value c.len.ensures.value in
    let r : Run = record { seat = c.args.seat; act = c.args.act; count = c.len.result - c.len-before.result; fault = false } in
    let more : c.push_reserved-then-count-gt0.new.self.items ≡ inside.runs.items ++ r ∷ [] = search rules in
    belongs_listed _ _ _ _ _ _ inside.replica c.step-answer.new.holder c.self.invariant (added_stored _ _ _ _ inside.replica _ c.self.invariant e.keeps.store.node e.keeps.store.schema e.later (same_after _ _ e.keeps c.self.invariant.on_disk) c.len.ensures.on_disk _ r e.keeps.added more count e.keeps.members refl) _ c.self.view_is _ e.belongs

pub returns-then-count-gt0-clause-gains : goal.returns-then-count-gt0-clause-gains
returns-then-count-gt0-clause-gains g c =
    let inside = c.self.inside in let e = c.step-answer.ensures in
    let count = count_added inside.replica.history.members e.keeps.added c.step-answer.new.holder.history.members _ _ e.keeps.members c.len-before.ensures.value c.len.ensures.value in
    let r : Run = record { seat = c.args.seat; act = c.args.act; count = c.len.result - c.len-before.result; fault = false } in
    let more : c.push_reserved-then-count-gt0.new.self.items ≡ inside.runs.items ++ r ∷ [] = search rules in
    gains_listed _ _ _ _ _ _ inside.replica c.step-answer.new.holder c.self.invariant (added_stored _ _ _ _ inside.replica _ c.self.invariant e.keeps.store.node e.keeps.store.schema e.later (same_after _ _ e.keeps c.self.invariant.on_disk) c.len.ensures.on_disk _ r e.keeps.added more count e.keeps.members refl) _ c.self.view_is _ e.grows

pub returns-else-count-gt0-clause-grows : goal.returns-else-count-gt0-clause-grows
returns-else-count-gt0-clause-grows g c =
    let inside = c.self.inside in let e = c.step-answer.ensures in
    let count = count_added inside.replica.history.members e.keeps.added c.step-answer.new.holder.history.members _ _ e.keeps.members c.len-before.ensures.value c.len.ensures.value in
    let same_runs : c.reserve.new.self.items ≡ inside.runs.items = search rules in
    let none : 0 ≡ length e.keeps.added = omega (arith, count, c.if-count-gt0.false) in
    let same = none_added inside.replica.history.members e.keeps.added c.step-answer.new.holder.history.members e.keeps.members none in
    let met : met_store c.step-answer.result ≡ false = sym c.ended_by_store.ensures ∙ c.if-ended_by_store.false in
    nothing_grows _ _ _ _ inside.replica _ c.self.invariant e.keeps.store.node e.keeps.store.schema e.later (same_after _ _ e.keeps c.self.invariant.on_disk) c.len.ensures.on_disk _ same_runs same _ c.self.view_is c.args.seat c.args.act _ met

pub returns-else-count-gt0-clause-steps : goal.returns-else-count-gt0-clause-steps
returns-else-count-gt0-clause-steps g c =
    let inside = c.self.inside in let e = c.step-answer.ensures in
    let count = count_added inside.replica.history.members e.keeps.added c.step-answer.new.holder.history.members _ _ e.keeps.members c.len-before.ensures.value c.len.ensures.value in
    let same_runs : c.reserve.new.self.items ≡ inside.runs.items = search rules in
    let none : 0 ≡ length e.keeps.added = omega (arith, count, c.if-count-gt0.false) in
    let same = none_added inside.replica.history.members e.keeps.added c.step-answer.new.holder.history.members e.keeps.members none in
    steps_listed _ _ _ _ _ _ inside.replica c.step-answer.new.holder c.self.invariant (nothing_stored _ _ _ _ inside.replica _ c.self.invariant e.keeps.store.node e.keeps.store.schema e.later (same_after _ _ e.keeps c.self.invariant.on_disk) c.len.ensures.on_disk _ same_runs same) _ c.self.view_is c.args.session.now c.step-answer.new.self c.args.frame c.step-answer.result e.steps

pub returns-else-count-gt0-clause-belongs : goal.returns-else-count-gt0-clause-belongs
returns-else-count-gt0-clause-belongs g c =
    let inside = c.self.inside in let e = c.step-answer.ensures in
    let count = count_added inside.replica.history.members e.keeps.added c.step-answer.new.holder.history.members _ _ e.keeps.members c.len-before.ensures.value c.len.ensures.value in
    let same_runs : c.reserve.new.self.items ≡ inside.runs.items = search rules in
    let none : 0 ≡ length e.keeps.added = omega (arith, count, c.if-count-gt0.false) in
    let same = none_added inside.replica.history.members e.keeps.added c.step-answer.new.holder.history.members e.keeps.members none in
    belongs_listed _ _ _ _ _ _ inside.replica c.step-answer.new.holder c.self.invariant (nothing_stored _ _ _ _ inside.replica _ c.self.invariant e.keeps.store.node e.keeps.store.schema e.later (same_after _ _ e.keeps c.self.invariant.on_disk) c.len.ensures.on_disk _ same_runs same) _ c.self.view_is _ e.belongs

pub returns-else-count-gt0-clause-gains : goal.returns-else-count-gt0-clause-gains
returns-else-count-gt0-clause-gains g c =
    let inside = c.self.inside in let e = c.step-answer.ensures in
    let count = count_added inside.replica.history.members e.keeps.added c.step-answer.new.holder.history.members _ _ e.keeps.members c.len-before.ensures.value c.len.ensures.value in
    let same_runs : c.reserve.new.self.items ≡ inside.runs.items = search rules in
    let none : 0 ≡ length e.keeps.added = omega (arith, count, c.if-count-gt0.false) in
    let same = none_added inside.replica.history.members e.keeps.added c.step-answer.new.holder.history.members e.keeps.members none in
    gains_listed _ _ _ _ _ _ inside.replica c.step-answer.new.holder c.self.invariant (nothing_stored _ _ _ _ inside.replica _ c.self.invariant e.keeps.store.node e.keeps.store.schema e.later (same_after _ _ e.keeps c.self.invariant.on_disk) c.len.ensures.on_disk _ same_runs same) _ c.self.view_is _ e.grows
