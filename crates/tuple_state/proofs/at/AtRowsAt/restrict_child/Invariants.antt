use Rattle.std.proofs.Common.{◌≡◌, false, take}
use Rattle.std.specs.List.{list_any}
use Rattle.tuple_state.proofs.Restricting.{holds_on}
use Rattle.tuple_state.proofs.at.AtRowsAt.restrict_child.Given as goal

-- none so far names the row
abbrev pub invariant-loop-place : goal.invariant-loop-place
invariant-loop-place g l =
    list_any (holds_on l.self.tables.now (λ p. g.A.Ancestors.ancestor l.self.ancestors.now p l.self.position) l.name) (take l.place l.self.tables.now.inserted) ≡ false
