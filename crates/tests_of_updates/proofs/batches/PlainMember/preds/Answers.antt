use Rattle.std.proofs.Common.{◌≡◌, List, [], ◌∷◌, Some, None}
use Rattle.std.specs.declared.option.Option.{Option}
use Rattle.std.specs.Prelude.{MatchOption}
use Rattle.std.specs.List.Sorted.{IsStrictlySortedBy}
use Rattle.update_model.specs.declared.update_id.UpdateId.{UpdateId}
use Rattle.update_model.specs.Entry.{id_cmp}
use Rattle.tests_of_updates.proofs.batches.PlainMember.preds.Goals as goal

-- at most one id rises
one_rises : (o : Option UpdateId) (ids : List UpdateId) → MatchOption o (ids ≡ []) (λ id. ids ≡ id ∷ []) → IsStrictlySortedBy id_cmp ids
unfolding IsStrictlySortedBy
one_rises None ids is = rw is tt
one_rises (Some id) ids is = rw is (tt, tt)

pub returns-clause-rising : goal.returns-clause-rising
returns-clause-rising c = one_rises c.args.self.now.pred c.as_slice.result.now c.as_slice.ensures
