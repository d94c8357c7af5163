-- What a report reads of a world.
use Rattle.std.specs.Prelude.{◌≡◌, ℕ, ◌+◌, Bool, true, false, List, [], ◌∷◌, length, map, Option, Some, None, slice_get}
use Rattle.history.specs.Histories.{nodes_of}
use Rattle.schema.specs.Data.{Meaning}
use Rattle.session_rules.specs.declared.end.End.{End}
use Rattle.session_rules.specs.declared.end.End.TheVariants as endings
use Rattle.session_rules.specs.declared.peer_fault.PeerFault.{PeerFault}
use Rattle.session_rules.specs.declared.peer_fault.PeerFault.TheVariants.{BadFrame, WrongDatabase, BadUpdate, Unanswered, AskedUnknown, AskedAgain, Stalled, TakenBack, OutOfTurn, Version}
use Rattle.table_model.specs.Tables.{AreRowsIn, AreTablesOf}
use Rattle.table_model.specs.Visible.{Rules, rules_with}
use Rattle.table_model.specs.declared.shown_row.ShownRow.{ShownRow}
use Rattle.table_model.specs.declared.void_line.VoidLine.{VoidLine}
use Rattle.update_codec.specs.Parts.{entry_of}
use Rattle.update_model.specs.declared.update_id.UpdateId.{UpdateId}
use Rattle.update_model.specs.Graph.{AreHeads}
use Rattle.update_model.specs.Node.{NodeData}
use Rattle.byzantine_world.specs.declared.talk.Talk.{Talk}
use Rattle.byzantine_world.specs.declared.talk.Talk.TheVariants as talks
use Rattle.world_report.specs.declared.shown.Counts.{Counts}
use Rattle.world_report.specs.declared.shown.ShownEnd.{ShownEnd}
use Rattle.world_report.specs.declared.shown.ShownEnd.TheVariants.{Open, Done, Peer, Full, Store, Cut}
use Rattle.world_report.specs.declared.shown.ShownReplica.{ShownReplica}
use Rattle.world_report.specs.declared.shown.ShownReplica.TheVariants.{Up, Down}
use Rattle.world_report.specs.declared.shown.ShownSession.{ShownSession}
use Rattle.world_rules.specs.Meetings.{EndData}
use Rattle.world_rules.specs.Worlds.{SiteData, SessionOf, Both, Liar, held_by}

-- ---- replicas

-- How many updates a replica holds, how many of them are heads, how many rows each table shows, and how many updates count for nothing.
pub record AreCounts (ask : Meaning) (site : SiteData) (counts : Counts) : Type 0 where
  pub updates : counts.updates ≡ length (held_by site)
  pub heads : List UpdateId
  pub are_heads : AreHeads (map entry_of (held_by site)) heads
  pub heads_are : counts.heads ≡ length heads
  pub tables : List (List ShownRow)
  pub voids : List VoidLine
  pub are_tables : AreTablesOf (rules_with ask site.store.history.schema.tables) (nodes_of (held_by site)) tables voids
  pub rows_are : counts.rows.items ≡ map length tables
  pub voids_are : counts.voids ≡ length voids

-- So many rows does each table show, of those that number below this.
pub record AreRowCounts (rules : Rules) (nodes : List NodeData) (upto : ℕ) (counts : List ℕ) : Type 0 where
  pub tables : List (List ShownRow)
  pub number : length tables ≡ upto
  pub rows : (number : ℕ) (rows : List ShownRow) → slice_get tables number ≡ Some rows → AreRowsIn rules nodes number rows
  pub counts_are : counts ≡ map length tables

-- A replica that is down is shown as down, and any other with what it holds.
abbrev pub IsShownReplica : Meaning → SiteData → ShownReplica → Type 0
IsShownReplica ask site (Up counts) = (site.is_down ≡ false) × AreCounts ask site counts
IsShownReplica ask site Down = site.is_down ≡ true

abbrev pub AreShownReplicas : Meaning → List SiteData → List ShownReplica → Type 0
AreShownReplicas ask [] shown = shown ≡ []
AreShownReplicas ask (site ∷ sites) shown = (first : ShownReplica) × (others : List ShownReplica) × (shown ≡ first ∷ others) × IsShownReplica ask site first × AreShownReplicas ask sites others

-- ---- sessions

-- the number of a fault of a peer
abbrev pub fault_number : PeerFault → ℕ
fault_number (BadFrame place) = 1
fault_number WrongDatabase = 2
fault_number (BadUpdate why) = 3
fault_number (Unanswered id) = 4
fault_number (AskedUnknown id) = 5
fault_number (AskedAgain id) = 6
fault_number Stalled = 7
fault_number TakenBack = 8
fault_number OutOfTurn = 9
fault_number Version = 10

-- how an end stands that ended so, and was cut or not
abbrev pub shown_as : Option End → Bool → ShownEnd
shown_as (Some endings.Done) was_cut = Done
shown_as (Some (endings.Peer fault)) was_cut = Peer (fault_number fault)
shown_as (Some endings.Full) was_cut = Full
shown_as (Some endings.Store) was_cut = Store
shown_as None true = Cut
shown_as None false = Open

-- how an end stands
abbrev pub end_shown : EndData → ShownEnd
end_shown end = shown_as end.state.ended end.is_cut

-- a session of this number: the end of who began it, and the other where a correct replica has it
abbrev pub session_shown : ℕ → SessionOf → ShownSession
session_shown number (Both m) = record { number = number; first = end_shown m.a; second = Some (end_shown m.b) }
session_shown number (Liar m) = record { number = number; first = end_shown m.end; second = None }

-- the sessions that were started, of those that number from here
abbrev pub sessions_shown : ℕ → List (Option SessionOf) → List ShownSession
sessions_shown number [] = []
sessions_shown number (None ∷ sessions) = sessions_shown (number + 1) sessions
sessions_shown number (Some session ∷ sessions) = session_shown number session ∷ sessions_shown (number + 1) sessions

-- ---- the code's sessions

abbrev pub talk_shown : ℕ → Talk → ShownSession
talk_shown number (talks.Both both) = record { number = number; first = shown_as both.a.ended both.a.is_cut; second = Some (shown_as both.b.ended both.b.is_cut) }
talk_shown number (talks.Liar liar) = record { number = number; first = shown_as liar.end.ended liar.end.is_cut; second = None }

-- those that were started, of those that number from here
abbrev pub talks_shown : ℕ → List (Option Talk) → List ShownSession
talks_shown number [] = []
talks_shown number (None ∷ others) = talks_shown (number + 1) others
talks_shown number (Some talk ∷ others) = talk_shown number talk ∷ talks_shown (number + 1) others
