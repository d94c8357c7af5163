-- A verdict goes operation by operation.
use Rattle.std.proofs.Common.{◌≡◌, ℕ, suc, ◌+◌, ◌<◌, Bool, List, ◌∷◌, length, drop, get_or, drop-cons, Option, Some, None, sym, ap, ◌∙◌, arith}
use Rattle.std.proofs.Math.Seq.{drop-length}
use Rattle.update_model.specs.declared.op.Op.{Op}
use Rattle.update_model.specs.declared.row_entry.RowEntry.{RowEntry}
use Rattle.update_model.specs.declared.row_name.RowName.{RowName}
use Rattle.update_model.specs.declared.value.Value.{Value}
use Rattle.update_model.specs.Node.{NodeData}
use Rattle.table_model.specs.declared.verdict.Verdict.{Verdict}
use Rattle.table_model.specs.declared.verdict.Verdict.TheVariants as verdict
use Rattle.table_model.specs.Visible.{Rules}
use Rattle.validity.specs.declared.own_row.OwnRow.{OwnRow}
use Rattle.validity.specs.Asked.{deleted_after, end_asked, op_asked, own_after, verdict_asked}

-- the rest from a place on begins with what stands there
at_drop : (ops : List Op) (i : ℕ) (op : Op) → i < length ops → op ≡ get_or ops i op → drop i ops ≡ op ∷ drop (i + 1) ops
at_drop ops i op low is =
    let more : suc i ≡ i + 1 = omega arith in
    drop-cons ops i op low ∙ ap (λ y. y ∷ drop (suc i) ops) (sym is) ∙ ap (λ n. op ∷ drop n ops) more

module _ (rules : Rules) (row : RowName → Option RowEntry) (child : RowName → Bool) (equal : ℕ → ℕ → Value → ℕ) (node : NodeData) (ops : List Op) where
  -- the operation at a place may not be done
  pub void_at : (i number : ℕ) (own : List OwnRow) (deleted : List RowName) (op : Op) (reason : ℕ) (all : Verdict) → i < length ops → op ≡ get_or ops i op
      → op_asked rules row child node number own deleted op ≡ Some reason
      → verdict_asked rules row child equal node number own deleted (drop i ops) ≡ all → verdict.Void reason number ≡ all
  unfolding verdict_asked
  void_at i number own deleted op reason all low is asked rest =
      sym (ap (λ o. elim o [ Some reason ↦ verdict.Void reason number | None ↦ verdict_asked rules row child equal node (number + 1) (own_after node number own op) (deleted_after deleted op) (drop (i + 1) ops) ]) asked)
      ∙ sym (ap (λ l. verdict_asked rules row child equal node number own deleted l) (at_drop ops i op low is)) ∙ rest

  -- it is done, and the rest decides
  pub on_at : (i number : ℕ) (own : List OwnRow) (deleted : List RowName) (op : Op) (all : Verdict) (next : ℕ) (more : List OwnRow) (names : List RowName)
      → i < length ops → op ≡ get_or ops i op → op_asked rules row child node number own deleted op ≡ None
      → next ≡ number + 1 → more ≡ own_after node number own op → names ≡ deleted_after deleted op
      → verdict_asked rules row child equal node number own deleted (drop i ops) ≡ all → verdict_asked rules row child equal node next more names (drop (i + 1) ops) ≡ all
  unfolding verdict_asked
  on_at i number own deleted op all next more names low is asked next-is more-is names-is rest =
      (λ j. verdict_asked rules row child equal node (next-is j) (more-is j) (names-is j) (drop (i + 1) ops))
      ∙ sym (ap (λ o. elim o [ Some reason ↦ verdict.Void reason number | None ↦ verdict_asked rules row child equal node (number + 1) (own_after node number own op) (deleted_after deleted op) (drop (i + 1) ops) ]) asked)
      ∙ sym (ap (λ l. verdict_asked rules row child equal node number own deleted l) (at_drop ops i op low is)) ∙ rest

  -- at the end it is the one of the end
  pub end_at : (number : ℕ) (own : List OwnRow) (deleted : List RowName) (all : Verdict)
      → verdict_asked rules row child equal node number own deleted (drop (length ops) ops) ≡ all → end_asked rules row equal number own deleted ≡ all
  unfolding verdict_asked
  end_at number own deleted all rest = sym (ap (λ l. verdict_asked rules row child equal node number own deleted l) (drop-length ops)) ∙ rest
