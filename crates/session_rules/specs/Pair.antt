-- Two ends, their holders' lists, and the frames on the way, while both lists may grow from outside.
use Rattle.std.specs.Prelude.{◌≡◌, ◌≢◌, ℕ, ◌+◌, ◌*◌, ◌≤◌, max, length, List, [], ◌∷◌, ◌++◌, map, Option, None, Some}
use Rattle.update_model.specs.declared.update_id.UpdateId.{UpdateId}
use Rattle.update_model.specs.declared.limits.TheConstants.{MAX_MEMBERS}
use Rattle.update_model.specs.Entry.{Entry}
use Rattle.update_model.specs.Graph.{IsClosed}
use Rattle.update_model.specs.Batch.{Limits, not_held}
use Rattle.session_rules.specs.State.{Initiator, Responder, HelloData, TurnData, FrameData, Hello, Item, Turn, PeerFault, Peer, SessionData, OutData}
use Rattle.session_rules.specs.Steps.{IsHello, begun, Steps}

-- two ends, their holders' lists, and the frames on their way to either
pub record PairData : Type 0 where
  pub a : SessionData
  pub list_a : List Entry
  pub b : SessionData
  pub list_b : List Entry
  pub to_a : List FrameData
  pub to_b : List FrameData

-- the same, seen from the other end
abbrev pub swapped : PairData → PairData
swapped p = record { a = p.b; list_a = p.list_b; b = p.a; list_b = p.list_a; to_a = p.to_b; to_b = p.to_a }

-- the frame of a Hello, where there is one
abbrev pub hello_frames : Option HelloData → List FrameData
hello_frames None = []
hello_frames (Some hello) = Hello hello ∷ []

-- the frame of a Turn, where there is one
abbrev pub turn_frames : Option TurnData → List FrameData
turn_frames None = []
turn_frames (Some turn) = Turn turn ∷ []

-- the frames that a step hands out, in their order
abbrev pub frames_of : OutData → List FrameData
frames_of out = hello_frames out.hello ++ (map Item out.send ++ turn_frames out.turn)

-- The next frame to the first end is handed to it.
pub record Carries (limits : Limits) (p q : PairData) : Type 0 where
  pub frame : FrameData
  pub rest : List FrameData
  pub next : SessionData
  pub out : OutData
  pub after : List Entry
  pub first : p.to_a ≡ frame ∷ rest
  pub step : Steps limits p.a p.list_a frame next out after
  pub is : q ≡ record { a = next; list_a = after; b = p.b; list_b = p.list_b; to_a = rest; to_b = p.to_b ++ frames_of out }

-- The first end's list grows from outside.
pub record Grows (p q : PairData) : Type 0 where
  pub more : List Entry
  pub closed : IsClosed (p.list_a ++ more)
  pub few : length (p.list_a ++ more) ≤ MAX_MEMBERS
  pub is : q ≡ record p { list_a = p.list_a ++ more }

-- what may happen next, to either end
pub data Event (limits_a limits_b : Limits) (p q : PairData) : Type 0 where
  carries_a : Carries limits_a p q → Event limits_a limits_b p q
  carries_b : Carries limits_b (swapped p) (swapped q) → Event limits_a limits_b p q
  grows_a : Grows p q → Event limits_a limits_b p q
  grows_b : Grows (swapped p) (swapped q) → Event limits_a limits_b p q

-- one event after another
pub data Reaches (limits_a limits_b : Limits) (p : PairData) : PairData → Type 0 where
  begins : (q : PairData) → q ≡ p → Reaches limits_a limits_b p q
  goes : (q r : PairData) → Reaches limits_a limits_b p q → Event limits_a limits_b q r → Reaches limits_a limits_b p r

-- frames are carried, and nothing comes from outside
pub data CarriesOn (limits_a limits_b : Limits) (p : PairData) : PairData → Type 0 where
  at_first : (q : PairData) → q ≡ p → CarriesOn limits_a limits_b p q
  then_a : (q r : PairData) → CarriesOn limits_a limits_b p q → Carries limits_a q r → CarriesOn limits_a limits_b p r
  then_b : (q r : PairData) → CarriesOn limits_a limits_b p q → Carries limits_b (swapped q) (swapped r) → CarriesOn limits_a limits_b p r

-- Two ends of one database: the first has made its Hello, which is on its way.
pub record Opens (p : PairData) : Type 0 where
  pub database : List ℕ
  pub node_a : List ℕ
  pub node_b : List ℕ
  pub old_a : List UpdateId
  pub old_b : List UpdateId
  pub hello : HelloData
  pub closed_a : IsClosed p.list_a
  pub closed_b : IsClosed p.list_b
  pub few_a : length p.list_a ≤ MAX_MEMBERS
  pub few_b : length p.list_b ≤ MAX_MEMBERS
  pub a : p.a ≡ record (begun Initiator database node_a old_a p.list_a) { turns = 1 }
  pub b : p.b ≡ begun Responder database node_b old_b []
  pub is_hello : IsHello p.a hello
  pub to_a : p.to_a ≡ []
  pub to_b : p.to_b ≡ Hello hello ∷ []

-- the members of the other set that the one lacks
abbrev pub missing : List Entry → List Entry → List Entry
missing one other = not_held one other

-- the turns that a session takes at most
abbrev pub bound : ℕ → ℕ → ℕ
bound m n = 2 * max m n + 4

-- the end has found no fault in the other
abbrev pub IsNoFault : SessionData → Type 0
IsNoFault s = (fault : PeerFault) → s.ended ≢ Some (Peer fault)

-- One end is handed any frames, one after another, while its list may grow from outside up to the greatest limit.
pub data Feeds (limits : Limits) (s : SessionData) (list : List Entry) : SessionData → List Entry → Type 0 where
  unfed : (t : SessionData) (now : List Entry) → t ≡ s → now ≡ list → Feeds limits s list t now
  fed : (t u : SessionData) (now after : List Entry) (frame : FrameData) (out : OutData) → Feeds limits s list t now → Steps limits t now frame u out after → Feeds limits s list u after
  grown : (t : SessionData) (now more : List Entry) → Feeds limits s list t now → length (now ++ more) ≤ MAX_MEMBERS → Feeds limits s list t (now ++ more)
