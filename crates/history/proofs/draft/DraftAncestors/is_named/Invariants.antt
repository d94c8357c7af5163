use Rattle.std.proofs.Common.{◌≡◌, false, take}
use Rattle.ancestry.specs.Since.{is_behind}
use Rattle.history.proofs.draft.DraftAncestors.is_named.Given as goal

-- none of the predecessors so far is the member or has it as an ancestor
abbrev pub invariant-loop-pred : goal.invariant-loop-pred
invariant-loop-pred l = is_behind l.self.ancestry.now (take l.pred-index l.pred-items) l.a ≡ false
