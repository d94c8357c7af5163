-- How an end begins, and what it has been through since.
use Rattle.std.specs.Prelude.{◌≡◌, ◌≤◌, ◌&&◌, ◌||◌, ℕ, List, [], length, not, Option, None, Some}
use Rattle.update_model.specs.declared.limits.TheConstants.{MAX_MEMBERS}
use Rattle.update_model.specs.declared.update_id.UpdateId.{UpdateId}
use Rattle.update_model.specs.Batch.{Limits}
use Rattle.update_model.specs.Entry.{Entry}
use Rattle.update_model.specs.Graph.{has, holds, names}
use Rattle.session_rules.specs.declared.limits.TheConstants.{MAX_NEEDS}
use Rattle.session_rules.specs.Pair.{Feeds}
use Rattle.session_rules.specs.State.{Role, Initiator, Responder, HelloData, End, Done, Peer, Full, Store, SessionData, OutData}
use Rattle.session_rules.specs.Steps.{begun, silent, heads_in, IsHello, AreLeast}

-- An end as it begins. The initiator has made its Hello, which is turn 0, from the list that its holder has. The responder
-- has no start set yet.
abbrev pub opened : Role → List ℕ → List ℕ → List UpdateId → List Entry → SessionData
opened Initiator database node old list = record (begun Initiator database node old list) { turns = 1 }
opened Responder database node old list = begun Responder database node old []

-- what an end hands out as it begins: the initiator its Hello, the responder nothing
abbrev pub Greets : Role → SessionData → OutData → Type 0
Greets Initiator s out = (hello : HelloData) × IsHello s hello × (out ≡ record silent { hello = Some hello })
Greets Responder s out = out ≡ silent

-- The end began over a list that no limit forbids, and since then took frames by the rules, while the list grew between them.
pub record Continues (limits : Limits) (s : SessionData) (list : List Entry) : Type 0 where
  pub role : Role
  pub database : List ℕ
  pub node : List ℕ
  pub old : List UpdateId
  pub first : List Entry
  pub few : length first ≤ MAX_MEMBERS
  pub feeds : Feeds limits (opened role database node old first) first s list

-- What an end that is done remembers of the other: the least heads of both Hellos. Any other end remembers nothing.
abbrev pub RemembersBy : Option End → SessionData → List UpdateId → Type 0
RemembersBy None s ids = ids ≡ []
RemembersBy (Some Done) s ids = AreLeast (λ id. (holds s.start id && not (names s.start id)) || has (heads_in s.peer) id) MAX_NEEDS ids
RemembersBy (Some (Peer fault)) s ids = ids ≡ []
RemembersBy (Some Full) s ids = ids ≡ []
RemembersBy (Some Store) s ids = ids ≡ []

-- the ids that an end remembers
abbrev pub Remembers : SessionData → List UpdateId → Type 0
Remembers s ids = RemembersBy s.ended s ids
