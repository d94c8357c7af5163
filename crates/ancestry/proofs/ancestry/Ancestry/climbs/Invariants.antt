use Rattle.std.proofs.Common.{◌≡◌, ◌<◌, ◌||◌, All}
use Rattle.std.specs.List.{list_any}
use Rattle.ancestry.specs.Walks.{is_ancestor}
use Rattle.ancestry.proofs.ancestry.Ancestry.climbs.Given as goal

-- The member at `a` leads to the one at `b` exactly where the next one does, or somebody that is pending.
abbrev pub invariant-loop : goal.invariant-loop
invariant-loop l = record {
  same : is_ancestor l.self l.a l.b ≡ (is_ancestor l.self l.next l.b || list_any (λ k. is_ancestor l.self k l.b) l.pending.keys);
  next : l.next < l.b;
  below : All (λ k. k < l.b) l.pending.keys;
}
