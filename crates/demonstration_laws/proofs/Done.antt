-- What updates do that are all valid.
use Rattle.std.proofs.Common.{◌≡◌, cond, ◌||◌, List, [], ◌∷◌, Bool, refl, ap, ◌∙◌}
use Rattle.std.specs.List.{list_any}
use Rattle.std.proofs.lemmas.List.Folds.{list_any-append}
use Rattle.update_model.specs.declared.row_name.RowName.{RowName}
use Rattle.update_model.specs.Node.{NodeData}
use Rattle.table_model.specs.Verdicts.{effects, effects_in, effects_of, is_valid, joined, judge_next, judged}
use Rattle.table_model.specs.Visible.{Rules, TableRow}
use Rattle.demonstration_laws.specs.Chains.{AreValid, did_by}

-- what the valid ones of a list did is what all did, where all are valid
pub all_did : (rules : Rules) (nodes : List NodeData) → AreValid rules nodes → effects_in rules nodes ≡ did_by nodes
unfolding effects judged judge_next
all_did rules [] valid = refl
all_did rules (node ∷ older) valid =
    let rest = all_did rules older valid.1 in
    let js = judged rules older in
    λ i. cond (is_valid (valid.0 i)) (joined (effects_of node) (rest i)) (rest i)

-- a row of them is one of an update
pub any_inserted : (p : TableRow → Bool) (nodes : List NodeData) → list_any p (did_by nodes).inserted ≡ list_any (λ node. list_any p (effects_of node).inserted) nodes
any_inserted p [] = refl
any_inserted p (node ∷ older) = list_any-append p (effects_of node).inserted (did_by older).inserted ∙ ap (λ b. list_any p (effects_of node).inserted || b) (any_inserted p older)

-- a name that one of them deletes is deleted by an update
pub any_deleted : (p : RowName → Bool) (nodes : List NodeData) → list_any p (did_by nodes).deleted ≡ list_any (λ node. list_any p (effects_of node).deleted) nodes
any_deleted p [] = refl
any_deleted p (node ∷ older) = list_any-append p (effects_of node).deleted (did_by older).deleted ∙ ap (λ b. list_any p (effects_of node).deleted || b) (any_deleted p older)
