-- No ids rise.
use Rattle.std.proofs.Common.{◌∙◌, sym, subst}
use Rattle.std.specs.List.Sorted.{IsStrictlySortedBy}
use Rattle.update_model.specs.Entry.{id_cmp}
use Rattle.tests_of_updates.proofs.frames.writes_known.Goals as goal

pub asking-neither-requires-clause-rising : goal.asking-neither-requires-clause-rising
unfolding IsStrictlySortedBy
asking-neither-requires-clause-rising c = subst (IsStrictlySortedBy id_cmp) (sym (c.from_vec.ensures ∙ c.new.ensures.items)) tt
