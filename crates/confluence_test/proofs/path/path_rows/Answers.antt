use Rattle.std.proofs.Common.{◌≡◌, ℕ, ◌+◌, ◌∙◌, List, [], ◌∷◌, ◌++◌, length, length-append, ap, sym, subst, arith, take, reverse}
use Rattle.confluence_laws.specs.Examples.{Step, Item, item_naming, path_items}
use Rattle.table_model.specs.Visible.{bare_rules}
use Rattle.confluence_test.proofs.Paths.{rows_next}
use Rattle.confluence_test.proofs.path.path_rows.Goals as goal

pub loop-step-preserved : goal.loop-step-preserved
loop-step-preserved c =
    let rules = bare_rules c.args.schema.now.tables in
    let older : ℕ = c.len.result + c.len-in-loop-step.result in
    let row = c.in_ok-item_naming.field-0 in
    let rows = c.loop-step.rows.items in
    let many = c.loop-step.invariant.many in
    let is : older ≡ length c.args.shared.now + length rows = omega arith in
    let made : row ≡ item_naming rules c.args.shared.now c.step-item.result.table c.step-item.result.column older =
    c.in_ok-item_naming.ensures ∙ ap (λ (s : Step). item_naming rules c.args.shared.now s.table s.column older) c.step.view_is in
    let next = rows_next rules c.args.shared.now c.args.back.now c.loop-step.step-index c.step-item.result row rows older c.loop-step-test.true c.step-item.is many is made c.loop-step.invariant.made in
    record {
      many = ap length c.in_ok-push.ensures.items ∙ length-append rows (row ∷ []) ∙ ap (λ (n : ℕ). n + 1) many;
      made = subst (λ (l : List Item). reverse l ++ c.args.shared.now ≡ path_items rules c.args.shared.now (reverse (take (c.loop-step.step-index + 1) c.args.back.now))) (sym c.in_ok-push.ensures.items) next;
    }
