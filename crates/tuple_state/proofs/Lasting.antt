-- What is visible now was visible before, from the update on that inserted it.
use Rattle.std.proofs.Common.{◌≡◌, ℕ, Bool, true, false, cond, not, List, [], ◌∷◌, ◌++◌, refl, sym, ap, ◌∙◌, subst, inl, inr, is_none}
use Rattle.std.specs.Prelude.{filter}
use Rattle.std.specs.List.{list_any, list_all, AllByRecursion}
use Rattle.std.proofs.lemmas.Bool.{and_parts, and_from, both_ways, false_from_ne_true, not_from_false, or_cases, or_left, or_right}
use Rattle.std.proofs.lemmas.List.Folds.{list_any-append}
use Rattle.update_model.specs.declared.row_name.RowName.{RowName}
use Rattle.update_model.specs.declared.update_id.UpdateId.{UpdateId}
use Rattle.update_model.specs.Node.{NodeData}
use Rattle.schema.specs.Sound.{AreTables}
use Rattle.schema.proofs.Soundness.{sound_tables}
use Rattle.table_model.specs.Nodes.{IsClosed}
use Rattle.table_model.specs.Verdicts.{Judged, ancestor_of, effects, effects_in, effects_of, is_valid, judged}
use Rattle.table_model.specs.Visible.{Effects, Rules, TableRow, cascade_refs, is_deleted, is_visible, kept_of, same_row}
use Rattle.table_model.proofs.Each.{each-append, each-left, each-right}
use Rattle.table_model.proofs.Founded.{founded_closed}
use Rattle.table_model.proofs.Resting.{resting}
use Rattle.table_model.proofs.Settled.{are_resting}
use Rattle.table_model.proofs.Standing.{all_both, any_each, row_from_same}
use Rattle.tuple_state.specs.Kept.{are_layered, is_named}
use Rattle.tuple_state.proofs.Layers.{Stands, each_stands, layer_parts, layered_founded, plain_visible}
use Rattle.tuple_state.proofs.Pasts.{layered_past, resting_past}

-- `then` did a part of what `now` did
module _ (rules : Rules) (then now : Effects) (layered : are_layered rules then.inserted ≡ true) (all : are_layered rules now.inserted ≡ true)
    (rest : are_resting rules then.inserted ≡ true) (rests : are_resting rules now.inserted ≡ true) (plain : (number : ℕ) → is_none (kept_of rules number) ≡ true)
    (gone : (name : RowName) → is_deleted then name ≡ true → is_deleted now name ≡ true) where
  abbrev Lasting : TableRow → Type 0
  Lasting row = is_visible rules now row.name ≡ true → is_visible rules then row.name ≡ true

  kept : (name : RowName) → not (is_deleted now name) ≡ true → not (is_deleted then name) ≡ true
  kept name h = not_from_false _ (false_from_ne_true _ (λ e. both_ways _ (ap not (gone name e)) h))

  each_lasts : (rows : List TableRow) → are_layered rules rows ≡ true → AllByRecursion (Stands then.inserted) rows → AllByRecursion (Stands now.inserted) rows → AllByRecursion Lasting rows
  each_lasts [] l s t = tt
  each_lasts (row ∷ older) l s t =
      let layer = layer_parts rules older row l in
      let earlier = each_lasts older layer.rest s.1 t.1 in (
        (λ seen.
            let parts = and_parts (list_all (λ r. is_visible rules now r.name) (cascade_refs rules row)) _ (sym (plain_visible rules now all rests row t.0 (plain row.table)) ∙ seen) in
            plain_visible rules then layered rest row s.0 (plain row.table)
            ∙ and_from _ _
            (all_both (λ r. is_named older r.name) (λ r. is_visible rules now r.name) (λ r. is_visible rules then r.name)
            (λ r named v. any_each Lasting (λ y. same_row y.name r.name) _
            (λ y lasts same. let e = row_from_same y.name r.name same in
            subst (λ (n : RowName). is_visible rules then n ≡ true) e (lasts (subst (λ (n : RowName). is_visible rules now n ≡ true) (sym e) v))) older earlier named)
            (cascade_refs rules row) layer.refers parts.0)
            (kept row.name parts.1)),
        earlier,
      )

-- ---- the ancestors did a part of what all did

each_part : (P : TableRow → Type 0) (keep : UpdateId → Bool) (js : List Judged) → AllByRecursion P (effects js).inserted → AllByRecursion P (effects (filter (λ j. keep j.node.id) js)).inserted
unfolding effects
each_part P keep [] h = h
each_part P keep (j ∷ js) h =
    let kept = filter (λ (j : Judged). keep j.node.id) js in
    let step : (b v : Bool) → is_valid j.verdict ≡ v → AllByRecursion P (effects (j ∷ js)).inserted → AllByRecursion P (effects (cond b (j ∷ kept) kept)).inserted =
    elim [
      | true ↦ elim [
        | true ↦ λ e g.
            let both = subst (λ (b : Bool). AllByRecursion P (cond b (record { inserted = (effects_of j.node).inserted ++ (effects js).inserted; deleted = (effects_of j.node).deleted ++ (effects js).deleted }) (effects js)).inserted) e g in
            subst (λ (b : Bool). AllByRecursion P (cond b (record { inserted = (effects_of j.node).inserted ++ (effects kept).inserted; deleted = (effects_of j.node).deleted ++ (effects kept).deleted }) (effects kept)).inserted) (sym e)
            (each-append P (effects_of j.node).inserted (effects kept).inserted (each-left P (effects_of j.node).inserted (effects js).inserted both)
            (each_part P keep js (each-right P (effects_of j.node).inserted (effects js).inserted both)))
        | false ↦ λ e g.
            let both = subst (λ (b : Bool). AllByRecursion P (cond b (record { inserted = (effects_of j.node).inserted ++ (effects js).inserted; deleted = (effects_of j.node).deleted ++ (effects js).deleted }) (effects js)).inserted) e g in
            subst (λ (b : Bool). AllByRecursion P (cond b (record { inserted = (effects_of j.node).inserted ++ (effects kept).inserted; deleted = (effects_of j.node).deleted ++ (effects kept).deleted }) (effects kept)).inserted) (sym e)
            (each_part P keep js both)
      ]
      | false ↦ elim [
        | true ↦ λ e g.
            let both = subst (λ (b : Bool). AllByRecursion P (cond b (record { inserted = (effects_of j.node).inserted ++ (effects js).inserted; deleted = (effects_of j.node).deleted ++ (effects js).deleted }) (effects js)).inserted) e g in
            each_part P keep js (each-right P (effects_of j.node).inserted (effects js).inserted both)
        | false ↦ λ e g.
            let both = subst (λ (b : Bool). AllByRecursion P (cond b (record { inserted = (effects_of j.node).inserted ++ (effects js).inserted; deleted = (effects_of j.node).deleted ++ (effects js).deleted }) (effects js)).inserted) e g in
            each_part P keep js both
      ]
    ] in
    step (keep j.node.id) (is_valid j.verdict) refl h

pub gone_part : (p : RowName → Bool) (keep : UpdateId → Bool) (js : List Judged) → list_any p (effects (filter (λ j. keep j.node.id) js)).deleted ≡ true → list_any p (effects js).deleted ≡ true
unfolding effects
gone_part p keep [] h = h
gone_part p keep (j ∷ js) h =
    let kept = filter (λ (j : Judged). keep j.node.id) js in
    let both : (b : Bool) → list_any p (cond b (record { inserted = (effects_of j.node).inserted ++ (effects kept).inserted; deleted = (effects_of j.node).deleted ++ (effects kept).deleted }) (effects kept)).deleted ≡ true
    → list_any p (cond b (record { inserted = (effects_of j.node).inserted ++ (effects js).inserted; deleted = (effects_of j.node).deleted ++ (effects js).deleted }) (effects js)).deleted ≡ true =
    elim [
      | true ↦ λ g. list_any-append p (effects_of j.node).deleted (effects js).deleted ∙ elim (or_cases (list_any p (effects_of j.node).deleted) _ (sym (list_any-append p (effects_of j.node).deleted (effects kept).deleted) ∙ g)) [
        | inl own ↦ or_left _ _ own
        | inr old ↦ or_right (list_any p (effects_of j.node).deleted) _ (gone_part p keep js old)
      ]
      | false ↦ λ g. gone_part p keep js g
    ] in
    let more : (b : Bool) → list_any p (effects js).deleted ≡ true
    → list_any p (cond b (record { inserted = (effects_of j.node).inserted ++ (effects js).inserted; deleted = (effects_of j.node).deleted ++ (effects js).deleted }) (effects js)).deleted ≡ true =
    elim [ true ↦ λ g. list_any-append p (effects_of j.node).deleted (effects js).deleted ∙ or_right (list_any p (effects_of j.node).deleted) _ g | false ↦ λ g. g ] in
    let step : (b : Bool) → list_any p (effects (cond b (j ∷ kept) kept)).deleted ≡ true → list_any p (effects (j ∷ js)).deleted ≡ true =
    elim [ true ↦ λ g. both (is_valid j.verdict) g | false ↦ λ g. more (is_valid j.verdict) (gone_part p keep js g) ] in
    step (keep j.node.id) h

-- Where no table keeps the least row, a row that no update hides is visible after the ancestors of every update whose ancestor inserted it.
pub visible_before : (rules : Rules) (nodes : List NodeData) (node : NodeData) → AreTables [] rules.tables → ((number : ℕ) → is_none (kept_of rules number) ≡ true) → IsClosed nodes → (name : RowName) → is_visible rules (effects_in rules nodes) name ≡ true
    → is_named (effects (filter (λ j. ancestor_of (judged rules nodes) node j.node.id) (judged rules nodes))).inserted name ≡ true
    → is_visible rules (effects (filter (λ j. ancestor_of (judged rules nodes) node j.node.id) (judged rules nodes))) name ≡ true
visible_before rules nodes node tables plain c name seen named =
    let js = judged rules nodes in
    let keep = ancestor_of js node in
    let now = effects js in
    let then = effects (filter (λ j. keep j.node.id) js) in
    let all = layered_founded rules now.inserted (founded_closed rules nodes c).founded in
    let layered = layered_past rules nodes node c in
    let each = each_lasts rules then now layered all (resting_past rules nodes node tables c) (resting rules (sound_tables rules.tables tables) now.inserted (founded_closed rules nodes c).founded) plain (λ n. gone_part (same_row n) keep js) then.inserted layered (each_stands rules then.inserted layered) (each_part (Stands now.inserted) keep js (each_stands rules now.inserted all)) in
    any_each (λ row. is_visible rules now row.name ≡ true → is_visible rules then row.name ≡ true) (λ row. same_row row.name name) _
    (λ row lasts same. let e = row_from_same row.name name same in
    subst (λ (n : RowName). is_visible rules then n ≡ true) e (lasts (subst (λ (n : RowName). is_visible rules now n ≡ true) (sym e) seen)))
    then.inserted each named
