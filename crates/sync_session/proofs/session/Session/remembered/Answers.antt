-- What is remembered of a peer is few and rises.
use Rattle.std.proofs.Common.{◌≡◌, ◌||◌, List, Some, option_map, IfOk, ◌∙◌, sym, ap, subst}
use Rattle.std.specs.List.Sorted.{IsStrictlySortedBy}
use Rattle.update_model.specs.declared.update_id.UpdateId.{UpdateId}
use Rattle.update_model.specs.Entry.{id_cmp}
use Rattle.update_model.specs.Graph.{has}
use Rattle.session_rules.specs.declared.end.End.TheVariants.{Done}
use Rattle.session_rules.specs.declared.limits.TheConstants.{MAX_NEEDS}
use Rattle.session_rules.specs.Steps.{heads_in, AreLeast}
use Rattle.sync_session.specs.Kept.{Kept, hello_of}
use Rattle.sync_session.specs.Starts.{RemembersBy}
use Rattle.sync_session.proofs.Starting.{if_ok_ids, done_remembers}
use Rattle.sync_session.proofs.session.Session.remembered.Goals as goal

pub returns-then-self-clause-rising : goal.returns-then-self-clause-rising
unfolding IsStrictlySortedBy
returns-then-self-clause-rising c = subst (IsStrictlySortedBy id_cmp) (sym (c.from_vec.ensures ∙ c.new.ensures.items)) tt

pub returns-in-Some-Done-clause-remembers : goal.returns-in-Some-Done-clause-remembers
returns-in-Some-Done-clause-remembers c =
    let done : c.self.inside.ended ≡ Some Done = c.in-Some-Done.is ∙ ap Some (rw c.in-Some-Done.is at c.in-Some-Done.field-0-is) in
    let least = λ (heads : List UpdateId). λ (ids : List UpdateId). AreLeast (λ id. has heads id || has (heads_in (option_map hello_of c.self.inside.peer)) id) MAX_NEEDS ids in
    subst (λ (k : Kept). IfOk c.least_heads.result (RemembersBy k.failed k)) c.self.view_is
    (if_ok_ids c.least_heads.result (least c.self.inside.heads) _
    (λ ids are. done_remembers _ ids c.if-self.false done are)
    (subst (λ (heads : List UpdateId). IfOk c.least_heads.result (least heads)) c.as_slice.ensures c.least_heads.ensures.least))

pub returns-in_default-clause-rising : goal.returns-in_default-clause-rising
unfolding IsStrictlySortedBy
returns-in_default-clause-rising c = subst (IsStrictlySortedBy id_cmp) (sym (c.from_vec-in_default.ensures ∙ c.new-in_default.ensures.items)) tt
