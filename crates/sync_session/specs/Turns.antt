-- What a Turn does to a session, as its code goes.
use Rattle.std.specs.Prelude.{◌≡◌, ℕ, ◌+◌, Bool, false, List, map, take}
use Rattle.std.specs.List.Sorted.{IsStrictlySortedBy}
use Rattle.session_rules.specs.State.{TurnData, Turn, Answers}
use Rattle.session_rules.specs.Steps.{late_fault, IsTurn, Joins, Judges, Replies, Takes}
use Rattle.update_codec.specs.Parts.{entry_of}
use Rattle.update_model.specs.Batch.{Limits}
use Rattle.update_model.specs.declared.update_id.UpdateId.{UpdateId}
use Rattle.update_model.specs.Entry.{Entry, id_cmp}
use Rattle.sync_session.specs.Kept.{Kept, out_of, seen, whole, with_commit}
use Rattle.sync_session.specs.declared.out.Out.{Out}

-- the ids that were asked for rise
pub record IsOrdered (k : Kept) : Type 0 where
  pub asked : IsStrictlySortedBy id_cmp k.state.asked
  pub peer_asked : IsStrictlySortedBy id_cmp k.state.peer_asked

-- What a step does not touch.
pub record Stays (k next : Kept) : Type 0 where
  pub below : next.below ≡ k.below
  pub heads : next.heads ≡ k.heads
  pub pending : next.pending ≡ k.pending
  pub failed : next.failed ≡ k.failed

-- This end has asked for what its Turn needs, and awaits it. What the peer asked for is kept too.
pub record Awaits (turn own : TurnData) (k next : Kept) : Type 0 where
  pub asked : List UpdateId
  pub peer_asked : List UpdateId
  pub joins : Joins k.state.asked own.needs asked
  pub joins_peer : Joins k.state.peer_asked turn.needs peer_asked
  pub state : next ≡ record k { state = record k.state { reading = Answers own.needs; began = false; items = 0; turns = k.state.turns + 1; sent_have = own.have; asked = asked; peer_asked = peer_asked } }

-- the next turn is sent
pub record RepliesTo (list : List Entry) (first : Bool) (turn own : TurnData) (k next : Kept) (gives : Out) : Type 0 where
  pub replies : Replies false first (whole (take k.below list) k) turn own (whole (take k.below list) next) (out_of list gives)
  pub stays : Stays k next

-- a Turn is answered after its commit, which added so many
pub record SettlesTo (list : List Entry) (added : ℕ) (waiting : List (List ℕ)) (turn : TurnData) (k next : Kept) (gives : Out) : Type 0 where
  pub own : TurnData
  pub is_turn : IsTurn (whole (take k.below list) k) list (map entry_of waiting) own
  pub judges : Judges (late_fault (whole (take k.below list) k) turn own) (whole (take k.below list) k) (whole (take k.below list) (with_commit added waiting turn.have k)) turn own
      (whole (take k.below list) next) (out_of list gives)
  pub stays : Stays (with_commit added waiting turn.have k) next

-- what a Turn does
abbrev pub TakesTurn : Limits → Kept → List (List ℕ) → TurnData → Kept → Out → List (List ℕ) → Type 0
TakesTurn limits k before turn next gives after =
    Takes limits (seen before k) (map entry_of before) (Turn turn) (seen after next) (out_of (map entry_of after) gives) (map entry_of after)
