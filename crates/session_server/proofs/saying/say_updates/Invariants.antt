use Rattle.std.proofs.Common.{◌≡◌, ◌≤◌, ◌-◌, ℕ, length, map, filter_map, slice_get, take, Ok}
use Rattle.session_rules.specs.State.{Item}
use Rattle.update_codec.specs.Parts.{entry_of}
use Rattle.shared_replica.specs.Entries.{updates_of}
use Rattle.link_frames.specs.Saying.{Says}
use Rattle.session_server.specs.Talks.{IsQuiet, IsStill}
use Rattle.session_server.proofs.saying.say_updates.Given as goal

abbrev pub invariant-pieces : goal.invariant-pieces
invariant-pieces g l = record {
  still : IsStill l.initial.pass l.pass;
  quiet : IsQuiet l.initial.pass l.pass;
  left : g.K.Source.left l.link ≡ g.K.Source.left l.initial.link;
  later : g.K.Counted.faults l.initial.link ≤ g.K.Counted.faults l.link;
  within : l.said ≤ length l.positions;
  said : Says {T = ℕ} (g.K.Sink.held l.initial.link) (g.K.Sink.held l.link) (Ok 0) (map Item (filter_map (slice_get (map entry_of (updates_of l.initial.pass.seen))) (take l.said l.positions)));
}

abbrev pub decreases-pieces : goal.decreases-pieces
decreases-pieces g l = length l.positions - l.said
