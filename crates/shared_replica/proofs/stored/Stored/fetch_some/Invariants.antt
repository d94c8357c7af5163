use Rattle.shared_replica.specs.Entries.{updates_of}
use Rattle.shared_replica.proofs.Pieces.{IsOpen}
use Rattle.shared_replica.proofs.stored.Stored.fetch_some.Given as goal

abbrev pub invariant-positions : goal.invariant-positions
invariant-positions g l = IsOpen (updates_of l.self.entries) l.positions l.position-index l.size l.piece.items
