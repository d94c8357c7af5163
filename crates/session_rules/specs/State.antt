-- One end of a session, and the frames, as plain data.
use Rattle.std.specs.Prelude.{ℕ, Bool, List, Option}
use Rattle.update_model.specs.declared.update_id.UpdateId.{UpdateId}
use Rattle.update_model.specs.Entry.{Entry}
pub use Rattle.session_rules.specs.declared.role.Role.{Role}
pub use Rattle.session_rules.specs.declared.role.Role.TheVariants.{Initiator, Responder}
pub use Rattle.session_rules.specs.declared.peer_fault.PeerFault.{PeerFault}
pub use Rattle.session_rules.specs.declared.peer_fault.PeerFault.TheVariants.{BadFrame, WrongDatabase, BadUpdate, Unanswered, AskedUnknown, AskedAgain, Stalled, TakenBack, OutOfTurn, Version}
pub use Rattle.session_rules.specs.declared.end.End.{End}
pub use Rattle.session_rules.specs.declared.end.End.TheVariants.{Done, Peer, Full, Store}

-- how an end greets the other: its database, its node, the heads of its start set, the heads that it remembers of the
-- other, and the bits of a summary of what its start set has had since then
pub record HelloData : Type 0 where
  pub database : List ℕ
  pub node : List ℕ
  pub heads : List UpdateId
  pub old : List UpdateId
  pub filter : List ℕ

-- how a turn ends: whether all heads of the other's Hello are held, and if not, what is asked for
pub record TurnData : Type 0 where
  pub have : Bool
  pub needs : List UpdateId

-- a frame as it reaches an end: an Item is an update that was found under the end's rule; a refused one has the number of
-- its fault, and bytes that are no frame have their place
pub data FrameData : Type 0 where
  Hello : HelloData → FrameData
  OtherVersion : FrameData
  Item : Entry → FrameData
  BadItem : ℕ → FrameData
  Turn : TurnData → FrameData
  NoFrame : ℕ → FrameData

-- which frames may come next: a Hello; updates of the peer's burst, and a Turn; the updates with these ids in this order,
-- and a Turn
pub data Reading : Type 0 where
  Opening : Reading
  Burst : Reading
  Answers : List UpdateId → Reading

-- one end
pub record SessionData : Type 0 where
  pub role : Role
  pub database : List ℕ
  pub node : List ℕ
  pub old : List UpdateId
  -- the start set: the holder's list when the own Hello was made
  pub start : List Entry
  pub peer : Option HelloData
  pub reading : Reading
  -- whether a frame of the turn that is read has come, and how many Items
  pub began : Bool
  pub items : ℕ
  pub gathered : List Entry
  pub waiting : List Entry
  -- what was asked for in this session, by this end and by the peer
  pub asked : List UpdateId
  pub peer_asked : List UpdateId
  pub sent_have : Bool
  pub got_have : Bool
  pub turns : ℕ
  pub gained : ℕ
  pub ended : Option End

-- what a step hands out: what is to be sent, in this order, and how the session ended where it did
pub record OutData : Type 0 where
  pub hello : Option HelloData
  pub send : List Entry
  pub turn : Option TurnData
  pub end : Option End
