-- What a member of a graph is, however it is kept.
use Rattle.std.specs.Prelude.{ℕ, List, Bool}
use Rattle.std.specs.declared.cmp.Ordering.{Ordering}
use Rattle.std.specs.Ordering.{nat_cmp, is_eq}
use Rattle.std.specs.Cmp.Lexicographic.{slice_cmp}
use Rattle.update_model.specs.declared.update_id.UpdateId.{UpdateId}

-- ids order by bytes
abbrev pub id_cmp : UpdateId → UpdateId → Ordering
id_cmp a b = slice_cmp nat_cmp a.0 b.0

-- whether two ids are one
abbrev pub same_id : UpdateId → UpdateId → Bool
same_id a b = is_eq (id_cmp a b)

-- a member: its id, the ids of its direct predecessors, and its bytes
pub record Entry : Type 0 where
  pub id : UpdateId
  pub preds : List UpdateId
  pub bytes : List ℕ
