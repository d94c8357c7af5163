use Rattle.std.proofs.Common.{◌∙◌, length, sym, ap, subst, arith}
use Rattle.std.specs.List.Sorted.{IsStrictlySortedBy}
use Rattle.update_model.specs.Entry.{id_cmp}
use Rattle.sync_frames.proofs.Rising.{none_sorted}
use Rattle.sync_frames.proofs.turn.Turn.all_held.Goals as goal

pub invariant_of-result : goal.invariant_of-result
invariant_of-result c =
    let none = c.from_vec.ensures ∙ c.new.ensures.items in
    record { few = let len = ap length none in omega arith; rising = subst (IsStrictlySortedBy id_cmp) (sym none) none_sorted; none = λ h. none }
