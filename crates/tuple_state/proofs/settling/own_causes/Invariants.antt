use Rattle.std.proofs.Common.{◌≡◌, ◌<◌, ◌≤◌, ◌==◌, ◌&&◌, ℕ, not, Some, get_or, length}
use Rattle.std.specs.Prelude.{slice_get}
use Rattle.std.specs.Vec.{vec_capacity}
use Rattle.table_model.specs.Visible.{is_deleted}
use Rattle.tuple_state.specs.Past.{done_then}
use Rattle.tuple_state.specs.declared.inserted.Inserted.{Inserted}
use Rattle.tuple_state.proofs.settling.own_causes.Given as goal

-- the rows so far have their numbers, and there is room for all
abbrev pub invariant-loop-place : goal.invariant-loop-place
invariant-loop-place g l = record {
  own : (k : ℕ) (it : Inserted) → k < l.place → slice_get l.tables.inserted k ≡ Some it
      → (get_or l.causes.items k 0 == 0) ≡ (g.A.Ancestors.ancestor l.ancestors it.position l.position && not (is_deleted (done_then l.tables (λ p. g.A.Ancestors.ancestor l.ancestors p l.position)) it.name));
  few : (k : ℕ) → get_or l.causes.items k 0 ≤ 1;
  len : length l.causes.items ≡ l.place;
  room : length l.tables.inserted ≤ vec_capacity l.causes;
}
