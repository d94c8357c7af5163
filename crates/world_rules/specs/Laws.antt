-- What holds of every world that came about.
use Rattle.std.specs.Prelude.{◌≡◌, ℕ, ◌≤◌, ◌&&◌, ◌==◌, Bool, IsTrue, List, ◌++◌, length, map, take, Contains, Some}
use Rattle.bec_disk.specs.Disk.{DiskState, IsImage, EveryImage, LeavesOnly}
use Rattle.lms_tree.specs.SecretKey.{public_key}
use Rattle.lms_tree.specs.Signature.{leaf_number}
use Rattle.session_rules.specs.Laws.{HasAll, NoCollision}
use Rattle.session_rules.specs.Pair.{bound, missing, IsNoFault}
use Rattle.session_rules.specs.declared.end.End.TheVariants.{Done}
use Rattle.update_codec.specs.Parts.{author_of, body_of, entry_of, preds_of, signature_of}
use Rattle.update_codec.specs.Spelling.{message}
use Rattle.update_check.specs.Signed.{IsSigned}
use Rattle.bec_bytes.specs.Framed.{stream_of}
use Rattle.update_log.specs.Logset.{BeginsWith, IsLogset}
use Rattle.update_model.specs.Entry.{Entry}
use Rattle.update_model.specs.Graph.{AreHeads, HaveSameMembers, IsAncestor}
use Rattle.update_model.specs.Rule.{RuleData}
use Rattle.schema.specs.Data.{SchemaData}
use Rattle.history.specs.Histories.{nodes_of}
use Rattle.table_model.specs.Invariants.{Declared, claim_holds, invariants_of, shown_in}
use Rattle.table_model.specs.Tables.{AreTablesOf}
use Rattle.table_model.specs.Visible.{Rules}
use Rattle.table_model.specs.declared.shown_row.ShownRow.{ShownRow}
use Rattle.table_model.specs.declared.void_line.VoidLine.{VoidLine}
use Rattle.world_rules.specs.Happens.{fresh}
use Rattle.world_rules.specs.Lists.{Extends}
use Rattle.world_rules.specs.Meetings.{TwoEnds}
use Rattle.world_rules.specs.Worlds.{SiteData, SignedData, MetData, WorldData, site_at, held_by}

-- What a crash leaves of a disk at any moment of an event has P. A replica that is opened again has another disk, with what a crash left of the old one.
pub data LeavesThrough (old new : DiskState) (P : List ℕ → Type 0) : Type 0 where
  goes_on : LeavesOnly old new P → LeavesThrough old new P
  restarts : (image : List ℕ) → IsImage old.now image → EveryImage old.now P → LeavesOnly (fresh image) new P → LeavesThrough old new P

-- The list that these bytes stand for begins with these members.
abbrev pub StandsBehind : RuleData → List (List ℕ) → List ℕ → Type 0
StandsBehind rule members image = (others : List (List ℕ)) → IsLogset rule image others → (added : List (List ℕ)) × (others ≡ members ++ added)

-- What an event does to a replica: its list begins with what it was and is closed. Whatever a crash leaves at a moment of the event begins with the records
-- of what it was, and stands for a list that begins with it.
pub record KeepsList (schema : SchemaData) (old new : SiteData) : Type 0 where
  pub extends : Extends schema.rule (held_by old) (held_by new)
  pub in_front : LeavesThrough old.store.log.disk new.store.log.disk (BeginsWith (stream_of (held_by old)))
  pub any_moment : LeavesThrough old.store.log.disk new.store.log.disk (StandsBehind schema.rule (held_by old))

-- ---- keys

-- whether two messages were signed at one index of one replica's key
abbrev pub same_index : SignedData → SignedData → Bool
same_index a b = (a.replica == b.replica) && (a.index == b.index)

-- ---- who made what

-- The replica of this number has this key, and holds these updates.
pub record IsKeyOf (w : WorldData) (r : ℕ) (update : List ℕ) : Type 0 where
  pub site : SiteData
  pub there : site_at w r ≡ Some site
  pub author : author_of update ≡ public_key site.key.secret

-- Whenever an update is met that the key of a correct replica signed, a Make of that replica signed its message, in the same event or an earlier one.
abbrev pub NoForgery : WorldData → Type 0
NoForgery w = (m : MetData) (r : ℕ) → Contains w.met m → IsSigned m.update → IsKeyOf w r m.update
    → (s : SignedData) × Contains w.signed s × (s.replica ≡ r) × (message s.body ≡ message (body_of m.update)) × (s.event ≤ m.event)

-- Whenever an update is met that the key of a correct replica signed, a Make of that replica signed its message, under the index that its signature names, in the
-- same event or an earlier one.
abbrev pub NoForgedIndex : WorldData → Type 0
NoForgedIndex w = (m : MetData) (r : ℕ) → Contains w.met m → IsSigned m.update → IsKeyOf w r m.update
    → (s : SignedData) × Contains w.signed s × (s.replica ≡ r) × (message s.body ≡ message (body_of m.update)) × (s.index ≡ leaf_number (signature_of m.update)) × (s.event ≤ m.event)

-- The message of the update was signed by a Make of this replica. It names every head that the replica had then; and where no two updates of the graph
-- and of what it held then share an id, all of that are ancestors of the update.
pub record IsOfMake (w : WorldData) (r : ℕ) (graph : List (List ℕ)) (update : List ℕ) : Type 0 where
  pub signature : SignedData
  pub signed : Contains w.signed signature
  pub replica : signature.replica ≡ r
  pub body : signature.body ≡ body_of update
  pub site : SiteData
  pub there : site_at w r ≡ Some site
  pub within : signature.held ≤ length (held_by site)
  pub names : AreHeads (map entry_of (take signature.held (held_by site))) (preds_of update)
  pub above : NoCollision (map entry_of (take signature.held (held_by site))) (map entry_of graph) → (e : Entry) → Contains (map entry_of (take signature.held (held_by site))) e
      → IsAncestor (map entry_of graph) e (entry_of update)

-- ---- sets and tables

-- Two replicas with equal heads, where no two updates of their lists share an id, have equal sets, and equal tables and lines of updates that do nothing.
pub record HaveOneSet (rules : Rules) (list_a list_b : List (List ℕ)) : Type 0 where
  pub set : HaveSameMembers (map entry_of list_a) (map entry_of list_b)
  pub tables : (tables others : List (List ShownRow)) (voids lines : List VoidLine) → AreTablesOf rules (nodes_of list_a) tables voids → AreTablesOf rules (nodes_of list_b) others lines
      → (tables ≡ others) × (voids ≡ lines)

-- Every invariant of the schema holds in the tables of these updates.
abbrev pub HoldsInvariants : Rules → List (List ℕ) → Type 0
HoldsInvariants rules members = (declared : Declared) → Contains (invariants_of rules) declared → IsTrue (claim_holds rules (shown_in rules (nodes_of members)) declared.claim)

-- ---- sessions

-- Of a session of two correct replicas: neither end finds a fault in the other; the turns are within the bound of the start sets; and an end that is done
-- holds the other's start set, where no two updates of the lists share an id.
pub record IsSoundTalk (m : TwoEnds) (list_a list_b : List (List ℕ)) : Type 0 where
  pub fault_a : IsNoFault m.a.state
  pub fault_b : IsNoFault m.b.state
  pub turns_a : m.a.state.turns ≤ bound (length (missing m.a.state.start m.b.state.start)) (length (missing m.b.state.start m.a.state.start))
  pub turns_b : m.b.state.turns ≤ bound (length (missing m.a.state.start m.b.state.start)) (length (missing m.b.state.start m.a.state.start))
  pub done_a : NoCollision (map entry_of list_a) (map entry_of list_b) → m.a.state.ended ≡ Some Done → HasAll (map entry_of list_a) m.b.state.start
  pub done_b : NoCollision (map entry_of list_a) (map entry_of list_b) → m.b.state.ended ≡ Some Done → HasAll (map entry_of list_b) m.a.state.start
