use Rattle.std.proofs.Common.{◌≡◌, ◌≤◌, ℕ, map, take, Ok}
use Rattle.session_rules.specs.State.{Item}
use Rattle.update_codec.specs.Parts.{entry_of}
use Rattle.link_frames.specs.Saying.{Says}
use Rattle.session_server.proofs.saying.say_piece.Given as goal

abbrev pub invariant-updates : goal.invariant-updates
invariant-updates g l = record {
  left : g.K.Source.left l.link ≡ g.K.Source.left l.initial.link;
  later : g.K.Counted.faults l.initial.link ≤ g.K.Counted.faults l.link;
  said : Says {T = ℕ} (g.K.Sink.held l.initial.link) (g.K.Sink.held l.link) (Ok 0) (map Item (map entry_of (take l.update-index l.piece)));
}
