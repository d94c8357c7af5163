use Rattle.std.proofs.Common.{rules, ◌≡◌, ◌+◌, ◌-◌, false, List, ℕ, length, map, take, drop, ◌∙◌, refl, subst, sym, arith}
use Rattle.session_rules.specs.State.{Item}
use Rattle.update_codec.specs.Parts.{entry_of}
use Rattle.shared_replica.specs.Entries.{updates_of}
use Rattle.shared_replica.specs.Pieces.{IsPieceOf}
use Rattle.session_server.proofs.Gaining.{quiet_act, quiet_then}
use Rattle.session_server.proofs.Passing.{act_still, items, items_split, piece_more, piece_split, piece_within, prefix_then, rest_is, rest_seen, said_halts, said_on, said_so_far, still_then}
use Rattle.session_server.proofs.saying.say_updates.Goals as goal

pub fetch_some-next-requires-clause-seen : goal.fetch_some-next-requires-clause-seen
fetch_some-next-requires-clause-seen g c =
    let positions = c.args.positions.now in
    rest_seen c.args.pass.seen c.pieces.pass.seen positions (take (length positions - c.pieces.said) (drop c.pieces.said positions)) c.pieces.said (rest_is positions c.pieces.said) c.pieces.invariant.still.seen c.requires.seen

pub returns-in_default-clause-still : goal.returns-in_default-clause-still
returns-in_default-clause-still g c =
    let act = c.fetch_some-next.ensures in
    still_then c.args.pass c.pieces.pass c.fetch_some-next.result.pass c.pieces.invariant.still (act_still c.pieces.pass c.fetch_some-next.result.pass act.0 act.1 act.1 false act.2)

pub returns-in_default-clause-quiet : goal.returns-in_default-clause-quiet
returns-in_default-clause-quiet g c =
    let act = c.fetch_some-next.ensures in
    quiet_then c.args.pass c.pieces.pass c.fetch_some-next.result.pass c.pieces.invariant.still c.pieces.invariant.quiet (quiet_act c.pieces.pass c.fetch_some-next.result.pass act.0 act.1 false act.2)

pub returns-in_default-clause-said : goal.returns-in_default-clause-said
returns-in_default-clause-said g c =
    let seen = c.args.pass.seen in
    let positions = c.args.positions.now in
    said_so_far (g.K.Sink.held c.args.link.now) (g.K.Sink.held c.pieces.link) (items seen (take c.pieces.said positions)) (items seen (drop c.pieces.said positions)) (items seen positions)
    c.pieces.invariant.said (items_split seen positions c.pieces.said)

pub returns-in-Err-clause-still : goal.returns-in-Err-clause-still
returns-in-Err-clause-still g c =
    let act = c.fetch_some-next.ensures in
    still_then c.args.pass c.pieces.pass c.fetch_some-next.result.pass c.pieces.invariant.still (act_still c.pieces.pass c.fetch_some-next.result.pass act.0 act.1 act.1 false act.2)

pub returns-in-Err-clause-quiet : goal.returns-in-Err-clause-quiet
returns-in-Err-clause-quiet g c =
    let act = c.fetch_some-next.ensures in
    quiet_then c.args.pass c.pieces.pass c.fetch_some-next.result.pass c.pieces.invariant.still c.pieces.invariant.quiet (quiet_act c.pieces.pass c.fetch_some-next.result.pass act.0 act.1 false act.2)

pub returns-in-Err-clause-said : goal.returns-in-Err-clause-said
returns-in-Err-clause-said g c =
    let act = c.fetch_some-next.ensures in
    let seen = c.args.pass.seen in
    let positions = c.args.positions.now in
    let at = c.pieces.said in
    let piece = c.as_slice.result.now in
    let rest = take (length positions - at) (drop at positions) in
    let is = subst (λ (l : List (List ℕ)). IsPieceOf (updates_of act.0) rest l) (sym c.as_slice.ensures.value) (rw c.in-Ok.is at act.3) in
    let begins = prefix_then seen c.pieces.pass.seen act.0 c.pieces.invariant.still.seen act.2.began in
    said_halts _ (g.K.Sink.held c.args.link.now) (g.K.Sink.held c.pieces.link) (g.K.Sink.held c.say_piece.new.link) c.say_piece.result c.in-Err.halt (items seen (take at positions)) (map Item (map entry_of piece))
    (items seen (drop (at + length piece) positions)) (items seen positions) c.pieces.invariant.said c.say_piece.ensures.said c.in-Err.is
    (piece_split seen act.0 positions rest at (length piece) piece begins c.requires.seen (rest_is positions at) refl is)

pub pieces-preserved : goal.pieces-preserved
pieces-preserved g c =
    let act = c.fetch_some-next.ensures in
    let next = c.fetch_some-next.result.pass in
    let seen = c.args.pass.seen in
    let positions = c.args.positions.now in
    let at = c.pieces.said in
    let piece = c.as_slice.result.now in
    let count = c.len-said.result in
    let counted : count ≡ length piece = search rules in
    let rest = take (length positions - at) (drop at positions) in
    let is = subst (λ (l : List (List ℕ)). IsPieceOf (updates_of act.0) rest l) (sym c.as_slice.ensures.value) (rw c.in-Ok.is at act.3) in
    let begins = prefix_then seen c.pieces.pass.seen act.0 c.pieces.invariant.still.seen act.2.began in
    record {
      still = still_then c.args.pass c.pieces.pass next c.pieces.invariant.still (act_still c.pieces.pass next act.0 act.1 act.1 false act.2);
      quiet = quiet_then c.args.pass c.pieces.pass next c.pieces.invariant.still c.pieces.invariant.quiet (quiet_act c.pieces.pass next act.0 act.1 false act.2);
      left = c.say_piece.ensures.left ∙ c.pieces.invariant.left;
      later = omega (arith, c.pieces.invariant.later, c.say_piece.ensures.cause.later);
      within = piece_within seen act.0 positions rest at count piece begins c.requires.seen (rest_is positions at) counted is c.pieces.invariant.within;
      said = said_on _ (g.K.Sink.held c.args.link.now) (g.K.Sink.held c.pieces.link) (g.K.Sink.held c.say_piece.new.link) c.say_piece.result c.in_default-say_piece.field-0 (items seen (take at positions))
          (map Item (map entry_of piece)) (items seen (take (at + count) positions)) c.pieces.invariant.said c.say_piece.ensures.said c.in_default-say_piece.is
          (piece_more seen act.0 positions rest at count piece begins c.requires.seen (rest_is positions at) counted is);
    }
