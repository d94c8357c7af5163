-- A replica that opens what a crash left of its disks.
use Rattle.std.proofs.Common.{◌≡◌, ℕ, List, [], ◌∷◌, length, map, replicate, refl, sym, ap, subst, ◌∙◌, arith}
use Rattle.std.proofs.lemmas.List.Elements.{All-replicate}
use Rattle.bec_disk.specs.Disk.{DiskState}
use Rattle.bec_disk.specs.Left.{IsRestarted}
use Rattle.bec_disk.specs.Replay.{MemDiskState, state_of}
use Rattle.session_rules.proofs.Bounds.{sorted_none}
use Rattle.row_check.specs.Checksum.{is_luhn}
use Rattle.update_model.specs.declared.update_id.UpdateId.{UpdateId}
use Rattle.world_rules.specs.Happens.{IsLeftBy, Restarts, fresh}
use Rattle.world_rules.specs.Worlds.{SiteData}
use Rattle.world_rules.specs.Restarting.{OpensSite}
use Rattle.world_rules.specs.Sites.{AreHeadsToRecall, AreRemembered, fresh_parts}

-- no heads are such that a session can begin with
none_recalled : AreHeadsToRecall []
none_recalled = record { few = omega arith; rising = sorted_none }

pub none_remembered : (heads : List (List UpdateId)) (n : ℕ) → heads ≡ replicate n [] → AreRemembered heads
none_remembered heads n is = subst AreRemembered (sym is) (All-replicate AreHeadsToRecall n [] none_recalled)

-- nothing is remembered of each
abbrev none : List UpdateId
none = []

forgotten : (remembered : List (List UpdateId)) → replicate (length remembered) none ≡ map (λ (ids : List UpdateId). none) remembered
forgotten [] = refl
forgotten (ids ∷ others) = ap (λ (xs : List (List UpdateId)). none ∷ xs) (forgotten others)

-- what a crash left of a disk in memory
left_by : (disk : DiskState) (choice : ℕ) (old left : MemDiskState) → state_of old ≡ disk → IsRestarted choice old left → IsLeftBy choice disk left.start
left_by disk choice old left is r = subst (λ (x : DiskState). IsLeftBy choice x left.start) is (record { is_image = r.image; synced = r.synced; reads = r.reads })

-- What a crash left of its disks was opened.
pub restarts : (old new : SiteData) (choice : ℕ) (schema updates key used left_schema left_updates left_key left_used : MemDiskState) (heads : List (List UpdateId))
    → state_of schema ≡ old.schema → state_of updates ≡ old.store.log.disk → state_of key ≡ old.key.parts.key → state_of used ≡ old.key.parts.used
    → IsRestarted choice schema left_schema → IsRestarted choice updates left_updates → IsRestarted choice key left_key → IsRestarted choice used left_used
    → heads ≡ replicate (length old.remembered) none
    → OpensSite is_luhn (fresh left_schema.start) (fresh left_updates.start) (fresh_parts left_key.start left_used.start) heads new → Restarts is_luhn choice old new
restarts old new choice schema updates key used left_schema left_updates left_key left_used heads s u k d rs ru rk rd forgets o = record {
  schema = left_schema.start;
  updates = left_updates.start;
  key = left_key.start;
  used = left_used.start;
  left_schema = left_by old.schema choice schema left_schema s rs;
  left_updates = left_by old.store.log.disk choice updates left_updates u ru;
  left_key = left_by old.key.parts.key choice key left_key k rk;
  left_used = left_by old.key.parts.used choice used left_used d rd;
  schema_is = o.schema_is;
  opened = o.opened;
  any_moment = o.any_moment;
  on_disk = o.on_disk;
  opens_key = o.opens_key;
  up = o.up;
  remembered = o.remembers ∙ forgets ∙ forgotten old.remembered;
}
