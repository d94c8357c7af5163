use Rattle.std.proofs.Common.{List, ap, subst}
use Rattle.shared_replica.specs.declared.entry.Entry.{Entry}
use Rattle.shared_replica.specs.Entries.{IsStoreOf}
use Rattle.shared_replica.proofs.Lists.{store_of}
use Rattle.shared_replica.proofs.stored.Stored.into_replica.Goals as goal

pub returns-clause-list : goal.returns-clause-list
returns-clause-list g c = let inside = c.self.inside in
    subst (λ (l : List Entry). IsStoreOf l inside.replica) (ap (λ s. s.entries) c.self.view_is) (store_of _ _ _ _ _ c.self.invariant)
