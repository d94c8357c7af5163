use Rattle.std.proofs.Common.{sym, subst, ◌∙◌}
use Rattle.std.specs.List.Sorted.{IsStrictlySortedBy}
use Rattle.session_rules.proofs.Bounds.{sorted_none}
use Rattle.update_model.specs.Entry.{id_cmp}
use Rattle.world_rules.proofs.site.Site.recalled.Goals as goal

pub returns-in_default-clause-rising : goal.returns-in_default-clause-rising
returns-in_default-clause-rising c = subst (IsStrictlySortedBy id_cmp) (sym (c.from_vec.ensures ∙ c.new.ensures.items)) sorted_none

pub returns-in-None-clause-rising : goal.returns-in-None-clause-rising
returns-in-None-clause-rising c = subst (IsStrictlySortedBy id_cmp) (sym (c.from_vec-in-None.ensures ∙ c.new-in-None.ensures.items)) sorted_none
