-- The counterexample of a RESTRICT, from its parts.
use Rattle.std.proofs.Common.{◌≡◌, ℕ, ◌+◌, suc, List, length, ap, ◌∙◌, arith, Some}
use Rattle.update_model.specs.declared.op.Op.TheVariants as op
use Rattle.update_model.specs.Node.{NodeData}
use Rattle.table_model.specs.declared.counterexample.Counterexample.{Counterexample}
use Rattle.table_model.specs.Visible.{Rules}
use Rattle.confluence_laws.specs.Examples.{Item, Step, row_numbered, after, one_after, split_after, item_naming, path_from, path_items, shared_of, restrict_example}

-- what stands after these shared rows and all rows of the base
abbrev pub sides_of : Rules → ℕ → ℕ → (shared items : List Item) → Counterexample
sides_of rules table column shared items =
    split_after items (after (length items) (suc (length items)) (item_naming rules shared table (Some column) (length items)))
    (one_after (length items) (suc (suc (length items))) (op.Delete (row_numbered (suc (length shared)))))

-- what follows shared rows and a path
abbrev pub after_path : Rules → ℕ → ℕ → List Step → List Item → Counterexample
after_path rules table column steps shared = sides_of rules table column shared (path_items rules shared steps)

pub restrict_is : (rules : Rules) (table column target : ℕ) (steps : List Step) (shared items : List Item) (row : Item) (end older : ℕ) (left right : NodeData)
    → steps ≡ path_from rules (target + 1) target → shared ≡ shared_of rules steps table column → items ≡ path_items rules shared steps → older ≡ length items
    → row ≡ item_naming rules shared table (Some column) older → end ≡ length shared + 1 → left ≡ after older (older + 1) row → right ≡ one_after older (older + 2) (op.Delete (row_numbered end))
    → split_after items left right ≡ restrict_example rules table column target
restrict_is rules table column target steps shared items row end older left right s h i o r e l d =
    let next : older + 1 ≡ suc (length items) = omega arith in
    let last : older + 2 ≡ suc (suc (length items)) = omega arith in
    let own : end ≡ suc (length shared) = omega arith in
    let deep : target + 1 ≡ suc target = omega arith in
    let left_is : left ≡ after (length items) (suc (length items)) (item_naming rules shared table (Some column) (length items)) =
    l ∙ ap (after older (older + 1)) r ∙ ap (λ (k : ℕ). after older k (item_naming rules shared table (Some column) older)) next
    ∙ ap (λ (k : ℕ). after k (suc (length items)) (item_naming rules shared table (Some column) k)) o in
    let right_is : right ≡ one_after (length items) (suc (suc (length items))) (op.Delete (row_numbered (suc (length shared)))) =
    d ∙ ap (λ (k : ℕ). one_after older (older + 2) (op.Delete (row_numbered k))) own ∙ ap (λ (k : ℕ). one_after older k (op.Delete (row_numbered (suc (length shared))))) last
    ∙ ap (λ (k : ℕ). one_after k (suc (suc (length items))) (op.Delete (row_numbered (suc (length shared))))) o in
    ap (λ (n : NodeData). split_after items n right) left_is
    ∙ ap (split_after items (after (length items) (suc (length items)) (item_naming rules shared table (Some column) (length items)))) right_is
    ∙ ap (sides_of rules table column shared) i ∙ ap (after_path rules table column steps) h
    ∙ ap (λ (p : List Step). after_path rules table column p (shared_of rules p table column)) (s ∙ ap (λ (k : ℕ). path_from rules k target) deep)
