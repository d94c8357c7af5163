-- After a command every part of the shelf is in its place.
use Rattle.std.proofs.Common.{◌≡◌, sym, subst, Some, None, IsTrue}
use Rattle.key_directory.specs.Parts.{IsHome}
use Rattle.command_words.specs.Requests.{RequestText, heads, check, dump, init, keygen, apply, join, export, query, merge, notes}
use Rattle.outcomes.specs.Outcome.{Outcome}
use Rattle.outcomes.specs.Outside.{Outside}
use Rattle.bec_node.specs.RunAlone.{Comes}

-- a shelf that is the same has the same parts and counts
abbrev pub IsSeen : {S H R : Type 0} → Outside S H R → Outside S H R → Type 0
IsSeen before after = after.shelf ≡ before.shelf → (after.store ≡ before.store) × (after.shelf_faults ≡ before.shelf_faults)

module _ {S H R : Type 0} (before after : Outside S H R) (home : IsTrue before.store.tells → IsHome before.store) (seen : IsSeen before after) where
  pub same_home : after.shelf ≡ before.shelf → IsTrue before.store.tells → IsHome after.store
  same_home same tells = subst IsHome (sym (seen same).0) (home tells)

  pub comes_home : (request : RequestText) (outcome : Outcome) → Comes request before after outcome → IsTrue before.store.tells → IsHome after.store
  comes_home (heads None) outcome comes = same_home comes.shelf
  comes_home (heads (Some dir)) outcome comes = comes.runs.runs.home
  comes_home check outcome comes = same_home comes.shelf
  comes_home (dump None json) outcome comes = same_home comes.shelf
  comes_home (dump (Some dir) json) outcome comes = comes.runs.runs.home
  comes_home (init dir) outcome comes = comes.home
  comes_home (keygen dir lms ots) outcome comes = comes.draws.home
  comes_home (apply dir _) outcome comes = comes.runs.home
  comes_home (join dir) outcome comes = comes.joins.runs.home
  comes_home (export dir updates_only) outcome comes = comes.runs.runs.home
  comes_home (query dir text json) outcome comes = comes.runs.runs.home
  comes_home (merge first second) outcome comes = comes.stores.home
  comes_home (notes dir) outcome comes = comes.runs.runs.home
