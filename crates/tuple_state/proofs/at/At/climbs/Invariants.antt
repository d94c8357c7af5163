use Rattle.std.proofs.Common.{◌≡◌, ◌++◌, [], true, nat_lt, length, Some}
use Rattle.std.specs.Prelude.{slice_get, option_to_list, IfNone, IfSome}
use Rattle.std.specs.List.{list_all}
use Rattle.tuple_state.specs.declared.inserted.Inserted.{Inserted}
use Rattle.tuple_state.specs.Past.{row_visible_at, visible_at}
use Rattle.tuple_state.proofs.Linking.{size_of}
use Rattle.tuple_state.proofs.Reaching.{is_past}
use Rattle.tuple_state.proofs.at.At.climbs.Given as goal

-- The next row and those that are pending are there, ancestors inserted them, the next one is the last of them, and the first row
-- is visible exactly where all of them are.
abbrev pub invariant-loop-next : goal.invariant-loop-next
invariant-loop-next g l = record {
  there : list_all (λ k. nat_lt k (length l.self.tables.now.inserted)) (option_to_list l.next ++ l.pending.keys) ≡ true;
  inside : list_all (λ k. is_past (λ p. g.A.Ancestors.ancestor l.self.ancestors.now p l.self.position) (slice_get l.self.tables.now.inserted k)) (option_to_list l.next ++ l.pending.keys) ≡ true;
  last : IfSome l.next (λ k. list_all (λ q. nat_lt q k) l.pending.keys ≡ true);
  done : IfNone l.next (l.pending.keys ≡ []);
  same : (it : Inserted) → slice_get l.self.tables.now.inserted l.place ≡ Some it
      → visible_at (g.A.Ancestors.ancestor l.self.ancestors.now) l.self.tables.now l.self.position it.name
      ≡ list_all (row_visible_at (g.A.Ancestors.ancestor l.self.ancestors.now) l.self.tables.now l.self.position) (option_to_list l.next ++ l.pending.keys);
}

abbrev pub decreases-loop-next : goal.decreases-loop-next
decreases-loop-next g l = size_of l.next
