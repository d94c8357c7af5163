use Rattle.std.proofs.Common.{ℕ, List, ap, subst}
use Rattle.sync_frames.specs.Stream.{IsBroken}
use Rattle.sync_frames.specs.Fed.{FedData, Feeds, Fronts}
use Rattle.sync_frames.proofs.Pieces.{feeds_from}
use Rattle.sync_frames.proofs.frames.Frames.feed.Goals as goal

pub returns-then-self-clause-cause : goal.returns-then-self-clause-cause
returns-then-self-clause-cause c =
    (subst (λ (fed : FedData). IsBroken fed.rest) c.self.view_is (c.self.invariant.none c.if-self.true), ap (λ (fed : FedData). fed.place) c.self.view_is)

pub returns-in-Ok-clause-frames : goal.returns-in-Ok-clause-frames
returns-in-Ok-clause-frames c =
    subst (λ (old : FedData). Feeds old (record { place = c.saturating_add-self-inside.result; rest = c.take_off.new.bytes.items }) c.args.piece.now c.in-Ok.front.frames.items) c.self.view_is
    (feeds_from (record { place = c.self.inside.place; rest = c.self.inside.rest.items }) c.args.piece.now c.extend_from_slice.new.self.items c.take_off.new.bytes.items c.in-Ok.front.frames.items
    c.in-Ok.front.len c.saturating_add-self-inside.result c.in-Ok.front.broken
    c.in_ok-extend_from_slice.ensures.items
    (subst (λ (bytes : List ℕ). Fronts bytes c.in-Ok.front.frames.items c.in-Ok.front.len c.in-Ok.front.broken) c.as_slice.ensures.value c.in-Ok.ensures)
    c.take_off.ensures c.saturating_add-self-inside.ensures (c.self.invariant.begun c.if-self.false))
