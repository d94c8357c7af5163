use Rattle.std.proofs.Common.{◌≡◌, ◌∙◌, List, ℕ, Some, None, Err, ap, find, map, not, refl, subst, sym, true, false}
use Rattle.std.specs.Prelude.{is_some}
use Rattle.update_model.specs.Batch.{store_limits}
use Rattle.update_model.specs.Graph.{holds, lacking, position_of}
use Rattle.update_codec.specs.Parts.{entry_of}
use Rattle.update_check.specs.Holding.{Commits, IsAdded}
use Rattle.outcomes.specs.declared.refusal.Refusal.{Refusal}
use Rattle.watch_command.specs.Records.{StopsTaking}
use Rattle.watch_command.proofs.Taking.{committed, known, lacks, next, not_changed, not_taken}
use Rattle.watch_command.proofs.records.take_update.Goals as goal

pub returns-then-is_some-clause-taken : goal.returns-then-is_some-clause-taken
returns-then-is_some-clause-taken g c =
    let found : is_some (position_of (map entry_of c.args.replica.now.history.members) (entry_of c.args.update).id) ≡ true =
    (let a = c.is_some.ensures in let b = c.position.ensures in let d = c.id.ensures in let e = c.if-is_some.true in cc) in
    known c.args.replica.now.history.members c.args.update found

pub returns-in-Some-clause-stopped : goal.returns-in-Some-clause-stopped
returns-in-Some-clause-stopped g c =
    let members = c.args.replica.now.history.members in
    let new : is_some (position_of (map entry_of members) (entry_of c.args.update).id) ≡ false =
    (let a = c.is_some.ensures in let b = c.position.ensures in let d = c.id.ensures in let e = c.if-is_some.false in cc) in
    let first : lacking (map entry_of members) (entry_of c.args.update) ≡ Some c.in-Some.id =
    ap (find (λ id. not (holds (map entry_of members) id))) (sym c.preds.ensures.value) ∙ sym c.first_lacking.ensures ∙ c.in-Some.is in
    subst (λ (w : Refusal). StopsTaking members c.args.number c.args.update c.args.replica.now.log.faults c.args.replica.now.log.faults w) (sym c.refused.ensures)
    (refl, lacks members c.args.update c.in-Some.id new first)

pub returns-in-Ok-clause-taken : goal.returns-in-Ok-clause-taken
returns-in-Ok-clause-taken g c =
    let members = c.args.replica.now.history.members in
    let new : is_some (position_of (map entry_of members) (entry_of c.args.update).id) ≡ false =
    (let a = c.is_some.ensures in let b = c.position.ensures in let d = c.id.ensures in let e = c.if-is_some.false in cc) in
    let none : lacking (map entry_of members) (entry_of c.args.update) ≡ None =
    ap (find (λ id. not (holds (map entry_of members) id))) (sym c.preds.ensures.value) ∙ sym c.first_lacking.ensures ∙ c.in_default.is in
    let added = subst (λ (l : List (List ℕ)). IsAdded store_limits members l c.in-Ok._committed c.commit.new.self.history.members) c.in_ok-batch.ensures c.in-Ok.ensures.commits in
    committed members c.args.update c.in-Ok._committed c.commit.new.self.history.members (next members c.args.update new none) added

pub returns-in-Err-clause-stopped : goal.returns-in-Err-clause-stopped
returns-in-Err-clause-stopped g c =
    let members = c.args.replica.now.history.members in
    let old = c.args.replica.now.log.faults in
    let faults = c.commit.new.self.log.faults in
    let after = c.commit.new.self.history.members in
    let new : is_some (position_of (map entry_of members) (entry_of c.args.update).id) ≡ false =
    (let a = c.is_some.ensures in let b = c.position.ensures in let d = c.id.ensures in let e = c.if-is_some.false in cc) in
    let none : lacking (map entry_of members) (entry_of c.args.update) ≡ None =
    ap (find (λ id. not (holds (map entry_of members) id))) (sym c.preds.ensures.value) ∙ sym c.first_lacking.ensures ∙ c.in_default.is in
    let commits = subst (λ (l : List (List ℕ)). Commits store_limits members l (Err c.in-Err.fault) old faults after) c.in_ok-batch.ensures c.in-Err.ensures.commits in
    subst (λ (w : Refusal). StopsTaking members c.args.number c.args.update old faults w) (sym c.not_added.ensures)
    (not_taken members c.args.update after old faults c.args.number c.in-Err.fault (next members c.args.update new none) commits)

pub returns-in-Err-clause-same : goal.returns-in-Err-clause-same
returns-in-Err-clause-same g c =
    not_changed c.args.replica.now.history.members c.args.update c.commit.new.self.history.members c.args.replica.now.log.faults c.commit.new.self.log.faults c.in_ok-batch.batch.items c.in-Err.fault
    c.in-Err.ensures.commits
