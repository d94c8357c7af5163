-- What an end seeks: the ids among which is each one that it is to ask for.
use Rattle.std.specs.Prelude.{◌≡◌, Bool, true, ◌||◌, ◌&&◌, not, List, map}
use Rattle.update_codec.specs.Parts.{entry_of}
use Rattle.update_model.specs.declared.update_id.UpdateId.{UpdateId}
use Rattle.update_model.specs.Entry.{Entry}
use Rattle.update_model.specs.Graph.{has, holds, names}
use Rattle.sync_session.specs.Pending.{PendingData}

-- whether an id is neither held nor waits and was not asked for
abbrev pub is_open : List Entry → List Entry → List UpdateId → UpdateId → Bool
is_open now waiting asked id = not (holds now id) && (not (holds waiting id) && not (has asked id))

-- whether an id is a head of the peer's Hello, or a predecessor of what waits or was gathered
abbrev pub is_named : List UpdateId → PendingData → UpdateId → Bool
is_named heads p id = has heads id || (names (map entry_of p.waiting) id || names (map entry_of p.gathered) id)

-- Each id that is named and open is sought.
abbrev pub AreSought : List UpdateId → List Entry → PendingData → List UpdateId → List UpdateId → Type 0
AreSought heads now p asked sought = (id : UpdateId) → is_open now (map entry_of p.waiting) asked id ≡ true → is_named heads p id ≡ true → has sought id ≡ true

-- These ids are sought too.
abbrev pub SeeksToo : List UpdateId → List UpdateId → List UpdateId → Type 0
SeeksToo before ids after = (id : UpdateId) → has after id ≡ (has before id || has ids id)

-- What passes a test is sought still, unless it is among these.
abbrev pub StaySought : (UpdateId → Bool) → List UpdateId → List UpdateId → Type 0
StaySought test ids sought = (id : UpdateId) → test id ≡ true → (has ids id || has sought id) ≡ true
