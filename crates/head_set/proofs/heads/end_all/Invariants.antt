use Rattle.std.proofs.Common.{◌≡◌, ℕ, ◌≤◌, ◌+◌, ◌&&◌, not, length, take}
use Rattle.std.specs.BTreeMap.{keys}
use Rattle.std.specs.List.Sorted.{IsStrictlySortedBy}
use Rattle.update_model.specs.declared.update_id.UpdateId.{UpdateId as Id}
use Rattle.update_model.specs.Entry.{id_cmp}
use Rattle.update_model.specs.Graph.{has}
use Rattle.head_set.specs.Spans.{AreBefore, heads_at}
use Rattle.head_set.proofs.heads.end_all.Given as goal

abbrev pub invariant-loop-id : goal.invariant-loop-id
invariant-loop-id l = record {
  earlier : (n : ℕ) → n ≤ l.position → heads_at l.spans.entries n ≡ heads_at l.initial.spans.entries n;
  exact : (x : Id) → has (heads_at l.spans.entries (l.position + 1)) x ≡ (has (heads_at l.initial.spans.entries (l.position + 1)) x && not (has (take l.id-index l.ids) x));
  count : l.ended + length (heads_at l.spans.entries (l.position + 1)) ≡ length (heads_at l.initial.spans.entries (l.position + 1));
  before : AreBefore l.spans.entries (l.position + 1);
  rising : IsStrictlySortedBy id_cmp (keys l.spans);
}
