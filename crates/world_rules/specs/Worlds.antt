-- The state of a world.
use Rattle.std.specs.Prelude.{ℕ, ◌==◌, ◌||◌, Bool, true, false, not, List, is_some, if◌then◌else◌, Option, Some, None, slice_get}
use Rattle.bec_disk.specs.Disk.{DiskState}
use Rattle.key_index.specs.KeyState.{KeyState}
use Rattle.replica.specs.Replicas.{ReplicaState}
use Rattle.sync_frames.specs.Fed.{FedData}
use Rattle.update_model.specs.declared.update_id.UpdateId.{UpdateId}
use Rattle.update_model.specs.Form.{BodyData}
use Rattle.world_rules.specs.Meetings.{EndData, TwoEnds}

-- A correct replica: its part Schema, its store with the part Updates, its key with its parts, and the heads that it
-- remembers of each other replica since it was opened, by their numbers. While it is down, all is as it was when it went down.
pub record SiteData : Type 0 where
  pub schema : DiskState
  pub store : ReplicaState
  pub key : KeyState
  pub is_down : Bool
  pub remembered : List (List UpdateId)

-- A session with a liar, who answers: who began it, its end, and the bytes that came.
pub record OneEnd : Type 0 where
  pub first : ℕ
  pub end : EndData
  pub fed : FedData

-- a session of two correct replicas, or with a liar
pub data SessionOf : Type 0 where
  Both : TwoEnds → SessionOf
  Liar : OneEnd → SessionOf

-- What a Make signed: the replica, the index, the body whose message was signed, the number of the event, and how many updates it held before.
pub record SignedData : Type 0 where
  pub replica : ℕ
  pub index : ℕ
  pub body : BodyData
  pub event : ℕ
  pub held : ℕ

-- An update that was met in a frame or in a log that was opened, and the number of the event.
pub record MetData : Type 0 where
  pub event : ℕ
  pub update : List ℕ

-- The replicas; the sessions, by number, where they were started; all that was signed and all that was met so far; and the
-- number of the next event.
pub record WorldData : Type 0 where
  pub sites : List SiteData
  pub sessions : List (Option SessionOf)
  pub signed : List SignedData
  pub met : List MetData
  pub event : ℕ

-- ---- words

abbrev pub site_at : WorldData → ℕ → Option SiteData
site_at w r = slice_get w.sites r

-- the updates of a replica
abbrev pub held_by : SiteData → List (List ℕ)
held_by site = site.store.history.members

abbrev pub flat : {X : Type 0} → Option (Option X) → Option X
flat None = None
flat (Some s) = s

abbrev pub session_at : WorldData → ℕ → Option SessionOf
session_at w s = flat (slice_get w.sessions s)

abbrev pub is_up : Option SiteData → Bool
is_up None = false
is_up (Some site) = not site.is_down

-- whether an end reads no more
abbrev pub is_over : EndData → Bool
is_over e = is_some e.state.ended || e.is_cut

-- an end is cut, unless it has ended
abbrev pub cut_end : EndData → EndData
cut_end e = record e { is_cut = e.is_cut || not (is_some e.state.ended) }

abbrev pub cut_if : Bool → EndData → EndData
cut_if true e = cut_end e
cut_if false e = e

abbrev pub cut : SessionOf → SessionOf
cut (Both m) = Both (record m { a = cut_end m.a; b = cut_end m.b })
cut (Liar m) = Liar (record m { end = cut_end m.end })

abbrev pub takes_part : ℕ → SessionOf → Bool
takes_part r (Both m) = (m.first == r) || (m.second == r)
takes_part r (Liar m) = m.first == r

-- a session is cut where the replica takes part
abbrev pub cut_with : ℕ → Option SessionOf → Option SessionOf
cut_with r None = None
cut_with r (Some m) = Some (if takes_part r m then cut m else m)

-- the replica is down from now on
abbrev pub sunk : SiteData → SiteData
sunk site = record site { is_down = true }
