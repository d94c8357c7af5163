-- The end of an update's operations.
use Rattle.std.proofs.Common.{◌≡◌, ℕ, ◌≤◌, List, [], length, drop, sym, ap, ◌∙◌}
use Rattle.update_model.specs.declared.op.Op.{Op}
use Rattle.update_model.specs.Node.{NodeData}
use Rattle.table_model.specs.declared.verdict.Verdict.{Verdict}
use Rattle.table_model.specs.Verdicts.{verdict_after}
use Rattle.table_model.specs.Visible.{Rules, TableRow, Effects}
use Rattle.confluence_checker.proofs.Lists.{nothing_left}

pub verdict_end : (rules : Rules) (past : Effects) (rows : List TableRow) (node : NodeData) (ops : List Op) (i count : ℕ) (did : Effects) (all v : Verdict) → length ops ≤ i → count ≡ i
    → v ≡ verdict_after rules past rows node count did [] → verdict_after rules past rows node i did (drop i ops) ≡ all → v ≡ all
verdict_end rules past rows node ops i count did all v h same is told =
    is ∙ ap (λ (k : ℕ). verdict_after rules past rows node k did []) same ∙ sym (ap (verdict_after rules past rows node i did) (nothing_left ops i h)) ∙ told
