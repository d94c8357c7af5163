-- Updates that are read one by one.
use Rattle.std.proofs.Common.{◌≡◌, ◌∙◌, ℕ, List, [], ◌∷◌, ◌++◌, sym, ap, subst, append_assoc, append-nil, All, Ok}
use Rattle.std.proofs.lemmas.List.Elements.{All-push}
use Rattle.update_model.specs.Rule.{RuleData}
use Rattle.update_check.specs.Signed.{IsChecked}
use Rattle.hash_graph.specs.declared.added.Added.{Added}
use Rattle.hash_graph.specs.declared.added.Added.TheVariants.{New, Known}
use Rattle.hash_graph.specs.Answer.{list_after}
use Rattle.log_bench.specs.Growing.{Grows}

-- none
pub grows_none : (rule : RuleData) (members : List (List ℕ)) → All (IsChecked rule) members → Grows rule members members
grows_none rule members checked = record { added = ([], sym (append-nil members)); checked = checked }

-- some, and then others
pub grows_on : (rule : RuleData) (old mid new : List (List ℕ)) → Grows rule old mid → Grows rule mid new → Grows rule old new
grows_on rule old mid new first then = record {
  added = (first.added.0 ++ then.added.0, then.added.1 ∙ ap (λ (l : List (List ℕ)). l ++ then.added.0) first.added.1 ∙ append_assoc old first.added.0 then.added.0);
  checked = then.checked;
}

-- one, unless it is known
pub grows_by : (rule : RuleData) (old new : List (List ℕ)) (m : List ℕ) (added : Added) → All (IsChecked rule) old → IsChecked rule m → new ≡ list_after (Ok added) old m → Grows rule old new
grows_by rule old new m (New n) all one is = record { added = (m ∷ [], is); checked = subst (All (IsChecked rule)) (sym is) (All-push (IsChecked rule) old m all one) }
grows_by rule old new m (Known n) all one is = record { added = ([], is ∙ sym (append-nil old)); checked = subst (All (IsChecked rule)) (sym is) all }
