use Rattle.std.proofs.Common.{◌≡◌, length}
use Rattle.std.specs.List.{list_any}
use Rattle.tuple_state.specs.Links.{IsBelow, numbers_from, numbers_of}
use Rattle.tuple_state.proofs.Linking.{size_of}
use Rattle.tuple_state.proofs.links.Links.any_ancestor.Given as goal

-- the place's numbers are asked where those that are left are
abbrev pub invariant-loop-next : goal.invariant-loop-next
invariant-loop-next g l = record {
  below : IsBelow l.next (length l.self.links);
  same : list_any (λ number. g.A.Ancestors.ancestor l.ancestors number l.position) (numbers_of l.self.links l.place)
      ≡ list_any (λ number. g.A.Ancestors.ancestor l.ancestors number l.position) (numbers_from l.self.links l.next);
}

abbrev pub decreases-loop-next : goal.decreases-loop-next
decreases-loop-next g l = size_of l.next
