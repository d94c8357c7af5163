-- No id rises.
use Rattle.std.proofs.Common.{◌∙◌, sym, subst}
use Rattle.std.specs.List.Sorted.{IsStrictlySortedBy}
use Rattle.update_model.specs.Entry.{id_cmp}
use Rattle.session_bench.proofs.working.no_ids.Goals as goal

pub returns-clause-rising : goal.returns-clause-rising
unfolding IsStrictlySortedBy
returns-clause-rising c = subst (IsStrictlySortedBy id_cmp) (sym (c.from_vec.ensures ∙ c.new.ensures.items)) tt
