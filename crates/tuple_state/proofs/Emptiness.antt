-- Tables before any update.
use Rattle.tuple_state.specs.declared.groups.Groups.{Groups}
use Rattle.tuple_state.specs.declared.shape.Shape.{Shape}
use Rattle.tuple_state.specs.Grouped.{AreGroupsOf}
use Rattle.std.proofs.Common.{◌≡◌, ℕ, List, [], length, refl, ap, arith}
use Rattle.std.specs.Prelude.{count_by}
use Rattle.std.specs.BTreeMap.{BTreeMap, is_at}
use Rattle.std.specs.Map.{lookup}
use Rattle.update_model.specs.declared.row_name.RowName.{RowName}
use Rattle.table_model.specs.Tables.{name_cmp}
use Rattle.tuple_state.specs.Causes.{absent_times, ends_from, parents_from}
use Rattle.table_model.specs.Visible.{Rules}
use Rattle.tuple_state.specs.State.{IsStateOf}
use Rattle.tuple_state.specs.Kept.{IsKept, are_layered, pairs_of}
use Rattle.tuple_state.specs.Links.{Linked, is_of}

pub kept_new : (rules : Rules) (shapes : List Shape) (places : BTreeMap RowName ℕ) (children deleters : Linked) (groups : Groups) → AreGroupsOf shapes [] groups → places.entries ≡ [] → children ≡ record { size = 0; links = [] } → deleters ≡ record { size = 0; links = [] }
    → IsStateOf rules [] (record { shapes = shapes; count = 0; inserted = []; dropped = []; voids = [] })
    → IsKept (record { shapes = shapes; count = 0; inserted = []; dropped = []; voids = [] }) places [] children deleters [] groups
unfolding are_layered ends_from parents_from
kept_new rules shapes places children deleters groups grouped none childless empty held = record {
  held = record { rules = rules; nodes = []; is = held };
  few = omega arith;
  bounded = λ len. omega arith;
  dated = refl;
  layered = refl;
  placed = λ name. ap (lookup (is_at (name_cmp name))) none;
  each = refl;
  counted = λ k.
      let a = ap (λ (d : Linked). count_by (is_of k) d.links) empty in
      let b = ap (λ (d : Linked). absent_times d.links [] k) childless in
      omega (arith, a, b);
  grouped = grouped;
  homes = ap (λ (d : Linked). d.size) childless;
  named = ap (λ (d : Linked). pairs_of d.links) childless;
  ended = refl;
  rooms = ap (λ (d : Linked). d.size) empty;
  few_children = let l = ap (λ (d : Linked). length d.links) childless in omega (arith, l);
  few_deleters = let l = ap (λ (d : Linked). length d.links) empty in omega (arith, l);
  deleted = ap (λ (d : Linked). pairs_of d.links) empty;
}
