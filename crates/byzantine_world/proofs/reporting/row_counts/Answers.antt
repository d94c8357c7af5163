use Rattle.std.proofs.Common.{List, ℕ, ◌+◌, length, sym, subst, ap, ◌∙◌}
use Rattle.byzantine_world.specs.Shown.{AreRowCounts}
use Rattle.byzantine_world.proofs.Reported.{no_rows, rows_more}
use Rattle.byzantine_world.proofs.reporting.row_counts.Goals as goal

pub tables-init : goal.tables-init
tables-init c = λ rules nodes is.
    let P : List ℕ → Type 0 = λ ns. AreRowCounts rules nodes 0 ns in
    subst P (sym c.new-counts.ensures.items) (no_rows rules nodes)

pub tables-preserved : goal.tables-preserved
tables-preserved c = λ rules nodes is.
    let P : List ℕ → Type 0 = λ ns. AreRowCounts rules nodes (c.tables.table + 1) ns in
    let so_far = c.tables.counts.items in
    subst P (sym {A = List ℕ} c.in_ok-push.ensures.items)
    (rows_more rules nodes c.tables.table so_far c.in_ok-rows.rows c.in_ok-small.field-0 (c.tables.invariant rules nodes is) (c.in_ok-rows.ensures rules nodes is)
    (c.in_ok-small.ensures ∙ ap length c.as_slice.ensures))
