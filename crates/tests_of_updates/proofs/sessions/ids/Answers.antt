-- No id rises, and one does.
use Rattle.std.proofs.Common.{◌∙◌, sym, subst}
use Rattle.std.specs.List.Sorted.{IsStrictlySortedBy}
use Rattle.update_model.specs.Entry.{id_cmp}
use Rattle.tests_of_updates.proofs.sessions.ids.Goals as goal

pub returns-in-None-clause-rising : goal.returns-in-None-clause-rising
unfolding IsStrictlySortedBy
returns-in-None-clause-rising c = subst (IsStrictlySortedBy id_cmp) (sym (c.from_vec.ensures ∙ c.new.ensures.items)) tt

pub returns-in_ok-from_slice-in-Some-clause-rising : goal.returns-in_ok-from_slice-in-Some-clause-rising
unfolding IsStrictlySortedBy
returns-in_ok-from_slice-in-Some-clause-rising c = subst (IsStrictlySortedBy id_cmp) (sym (c.from_vec-in-Some.ensures ∙ c.in_ok-from_slice-in-Some.ensures.items)) (tt, tt)
