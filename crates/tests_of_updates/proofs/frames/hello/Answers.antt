-- No ids rise.
use Rattle.std.proofs.Common.{◌∙◌, sym, subst}
use Rattle.std.specs.List.Sorted.{IsStrictlySortedBy}
use Rattle.update_model.specs.Entry.{id_cmp}
use Rattle.tests_of_updates.proofs.frames.hello.Goals as goal

pub new-requires-4-clause-heads : goal.new-requires-4-clause-heads
unfolding IsStrictlySortedBy
new-requires-4-clause-heads c = subst (IsStrictlySortedBy id_cmp) (sym (c.from_vec.ensures ∙ c.new.ensures.items)) tt

pub new-requires-4-clause-old : goal.new-requires-4-clause-old
unfolding IsStrictlySortedBy
new-requires-4-clause-old c = subst (IsStrictlySortedBy id_cmp) (sym (c.from_vec-2.ensures ∙ c.new-2.ensures.items)) tt
