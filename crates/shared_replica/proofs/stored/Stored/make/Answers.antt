use Rattle.std.proofs.Common.{rules, ◌≡◌, ◌+◌, [], ◌∷◌, ◌++◌, length, true, false, Err, refl, sym, ap, ◌∙◌, subst, arith, append-nil}
use Rattle.bec_disk.proofs.Moments.{same_disk}
use Rattle.replica.specs.Making.{IsMakeCause}
use Rattle.replica.specs.declared.make_fault.MakeFault.TheVariants.{DiskFault}
use Rattle.replica.specs.declared.make_fault.Side.TheVariants.{Log}
use Rattle.row_check.specs.Checksum.{is_luhn}
use Rattle.shared_replica.specs.declared.entry.Run.{Run}
use Rattle.shared_replica.specs.Acts.{met_fault}
use Rattle.shared_replica.specs.Entries.{Story}
use Rattle.shared_replica.proofs.Growing.{added_stored, added_grows, fault_stored, fault_grows, nothing_grows, no_fault}
use Rattle.shared_replica.proofs.Lists.{met_few}
use Rattle.shared_replica.proofs.stored.Stored.make.Goals as goal

pub returns-in_err-reserve-clause-grows : goal.returns-in_err-reserve-clause-grows
returns-in_err-reserve-clause-grows g c =
    let inside = c.self.inside in let same : c.reserve.new.self.items ≡ inside.runs.items = search rules in
    let none : met_fault c.from_residual.result ≡ false = search rules in
    nothing_grows _ _ _ _ inside.replica inside.replica c.self.invariant refl refl (omega arith) (same_disk _ _ refl) c.self.invariant.on_disk _ same refl _ c.self.view_is c.args.seat c.args.act _ none

pub invariant_of-self-in-Ok : goal.invariant_of-self-in-Ok
invariant_of-self-in-Ok g c =
    let inside = c.self.inside in let made = c.in-Ok.ensures.made in let e = c.make-made.ensures in
    let r : Run = record { seat = c.args.seat; act = c.args.act; count = 1; fault = false } in
    let more : c.push_reserved.new.self.items ≡ inside.runs.items ++ r ∷ [] = search rules in
    added_stored _ _ _ _ inside.replica _ c.self.invariant e.store.node e.store.schema e.later e.any_moment.disk c.len.ensures.on_disk _ r (made.bytes ∷ []) more refl (ap (λ h. h.members) made.last) refl

pub returns-in-Ok-clause-grows : goal.returns-in-Ok-clause-grows
returns-in-Ok-clause-grows g c =
    let inside = c.self.inside in let made = c.in-Ok.ensures.made in let e = c.make-made.ensures in
    let r : Run = record { seat = c.args.seat; act = c.args.act; count = 1; fault = false } in
    let more : c.push_reserved.new.self.items ≡ inside.runs.items ++ r ∷ [] = search rules in
    added_grows _ _ _ _ inside.replica _ c.self.invariant e.store.node e.store.schema e.later e.any_moment.disk c.len.ensures.on_disk _ r (made.bytes ∷ []) more refl (ap (λ h. h.members) made.last)
    _ c.self.view_is refl _ (ap met_fault c.in-Ok.is)

pub overflow_add-self : goal.overflow_add-self
overflow_add-self g c = let n : c.len-then-eq.result ≡ length c.push_reserved-then-eq.new.self.items = search rules in
    let more : length c.push_reserved-then-eq.new.self.items ≡ length c.self.inside.runs.items + 1 = search rules in
    let f = c.self.invariant.faults_are in let m = met_few c.self.inside.runs.items in omega arith

pub invariant_of-self-then-eq : goal.invariant_of-self-then-eq
invariant_of-self-then-eq g c =
    let inside = c.self.inside in let e = c.make-made.ensures in
    let fault : c.in-Err.why ≡ DiskFault Log = search rules in
    let was : c.make-made.result ≡ Err (DiskFault Log) = c.in-Err.is ∙ ap Err fault in
    let r : Run = record { seat = c.args.seat; act = c.args.act; count = 0; fault = true } in
    let more : c.push_reserved-then-eq.new.self.items ≡ inside.runs.items ++ r ∷ [] = search rules in
    fault_stored _ _ _ _ inside.replica _ c.self.invariant e.store.node e.store.schema e.later e.any_moment.disk c.len.ensures.on_disk _ r [] more refl
    (ap (λ h. h.members) c.in-Err.ensures.same ∙ sym (append-nil _)) refl (e.log_failed was)

pub returns-then-eq-clause-grows : goal.returns-then-eq-clause-grows
returns-then-eq-clause-grows g c =
    let inside = c.self.inside in let e = c.make-made.ensures in
    let fault : c.in-Err.why ≡ DiskFault Log = search rules in
    let was : c.make-made.result ≡ Err (DiskFault Log) = c.in-Err.is ∙ ap Err fault in
    let r : Run = record { seat = c.args.seat; act = c.args.act; count = 0; fault = true } in
    let more : c.push_reserved-then-eq.new.self.items ≡ inside.runs.items ++ r ∷ [] = search rules in
    fault_grows _ _ _ _ inside.replica _ c.self.invariant e.store.node e.store.schema e.later e.any_moment.disk c.len.ensures.on_disk _ r [] more refl
    (ap (λ h. h.members) c.in-Err.ensures.same ∙ sym (append-nil _)) _ c.self.view_is refl (e.log_failed was) _ (ap (λ w. met_fault (Err w)) fault)

pub returns-else-eq-clause-grows : goal.returns-else-eq-clause-grows
returns-else-eq-clause-grows g c =
    let inside = c.self.inside in let e = c.make-made.ensures in
    let same : c.reserve.new.self.items ≡ inside.runs.items = search rules in
    let other : ¬ (c.in-Err.why ≡ DiskFault Log) = search rules in
    nothing_grows _ _ _ _ inside.replica _ c.self.invariant e.store.node e.store.schema e.later e.any_moment.disk c.len.ensures.on_disk _ same
    (ap (λ h. h.members) c.in-Err.ensures.same) _ c.self.view_is c.args.seat c.args.act _ (no_fault c.in-Err.why other)

pub returns-else-eq-clause-refused : goal.returns-else-eq-clause-refused
returns-else-eq-clause-refused g c =
    subst (λ (s : Story). IsMakeCause is_luhn s.store.history c.args.key.now.secret c.args.key.now.taken c.args.ops c.args.c.now c.in-Err.why) c.self.view_is c.in-Err.ensures.refused
