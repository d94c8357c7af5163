use Rattle.std.proofs.Common.{◌≡◌, ℕ, Err, true, false, List, [], ◌∷◌, ◌++◌, ◌∙◌, ap, arith, subst, sym, Contains}
use Rattle.std.specs.List.{AllByRecursion}
use Rattle.std.proofs.lemmas.List.{append-nil}
use Rattle.update_model.specs.Batch.{IsTooMuch, fits, store_limits}
use Rattle.update_model.specs.Entry.{Entry}
use Rattle.update_check.specs.Holding.{Commits}
use Rattle.update_check.specs.declared.holder.CommitFault.{CommitFault}
use Rattle.update_check.specs.declared.holder.CommitFault.TheVariants.{Full}
use Rattle.store_directory.proofs.settling.settle.Goals as goal

-- Of an empty batch nothing is added, so that what is within the limits stays there.
nothing_passes : (before added : List Entry) → AllByRecursion (Contains []) added → fits store_limits (before ++ added) ≡ false → fits store_limits before ≡ true → ⊥
nothing_passes before [] all passes fit = let both : true ≡ false = sym fit ∙ (ap (fits store_limits) (sym (append-nil before)) ∙ passes) in absurd (let is = both in cc)
nothing_passes before (first ∷ rest) all passes fit = let low = all.0.1 in absurd (omega arith)

never_too_much : (before : List Entry) → IsTooMuch store_limits before [] → fits store_limits before ≡ true → ⊥
never_too_much before much = nothing_passes before much.added much.adds.from much.passes

pub unreachable-requires : goal.unreachable-requires
unreachable-requires g c =
    let P : CommitFault → List (List ℕ) → Type 0 = λ why batch. Commits store_limits c.args.replica.now.history.members batch (Err why) c.args.replica.now.log.faults
    c.commit.new.self.log.faults c.commit.new.self.history.members in
    let much : P Full [] = subst (P Full) c.new.ensures.items (subst (λ (why : CommitFault). P why c.new.result.items) c.in-Err-Full.field-0-is c.in-Err-Full.ensures.commits) in
    never_too_much _ much.0 c.len.ensures.history.members.within
