-- Over every list of calls an index that each crash leaves used stays so and signs nothing more.
use Rattle.std.proofs.Common.{◌≡◌, ◌⊎◌, inl, inr, ℕ, List, [], ◌∷◌, ◌++◌, refl, sym, ◌∙◌, ap, subst, append_assoc, append-nil, IsTrue, Option, Some, None}
use Rattle.bec_disk.specs.Disk.{EveryImage}
use Rattle.bec_disk.specs.declared.part.Part.TheVariants.{Key, Used}
use Rattle.bec_disk.proofs.Images.{settled_image}
use Rattle.key_index.specs.KeyState.{KeyState}
use Rattle.key_index.specs.Lives.{IsThere}
use Rattle.key_index.specs.Used.{IsUsed}
use Rattle.key_directory.specs.Parts.{part_in}
use Rattle.seal_laws.specs.Acts.{Acts, IndexUse, IsLeft}
use Rattle.seal_laws.specs.Histories.{AreApart, Calls, Has, Histories, Runs, came_whole, cut_between, cut_within, ends, goes_on, no_call, then_call}
use Rattle.seal_laws.specs.Worlds.{HoldsNone, IsUsedIn, World, key_part, used_part}
use Rattle.seal_laws.proofs.Parts.{IsWell, StaysIn, goes_same, left_fixed, left_with_key, left_with_used}
use Rattle.seal_laws.proofs.ActLaws.{GoesAt, IsWellAt, StaysAt, acts_apart, acts_go, acts_not_again, acts_tell, acts_use}

-- The shelf tells, and so does each open key, which is there and holds its parts.
pub record IsSoundWorld (world : World) : Type 0 where
  pub tells : IsTrue world.shelf.tells
  pub well : (dir : List ℕ) → IsWellAt world dir

-- An act, or a crash in one or before it. What it would have signed that a crash cut short was not released.
data Moves : World → List IndexUse → World → Type 0 where
  acted : (old new : World) (uses : List IndexUse) → Acts old uses new → Moves old uses new
  cut : (old next after : World) → ((dir : List ℕ) → GoesAt old next dir) → IsLeft old next after → Moves old [] after

none_well : (world : World) (dir : List ℕ) → world.held dir ≡ None → IsWellAt world dir
none_well world dir none = subst (λ (h : Option KeyState). IsWell h (part_in world.shelf dir Key) (part_in world.shelf dir Used)) (sym none) tt

pub closed_sound : (world : World) → IsTrue world.shelf.tells → HoldsNone world → IsSoundWorld world
closed_sound world tells none = record { tells = tells; well = λ dir. none_well world dir (none dir) }

moves_sound : (old new : World) (uses : List IndexUse) → Moves old uses new → IsSoundWorld old → IsSoundWorld new
moves_sound old new uses (acted was is these acts) sound = record {
  tells = acts_tell was is these acts sound.tells;
  well = λ dir. (acts_go was is these acts sound.tells dir).well (sound.well dir);
}
moves_sound old new uses (cut was next after goes left) sound = closed_sound after left.tells left.none

-- an index stays used
left_stays : (old next after : World) (dir : List ℕ) (index : ℕ) → GoesAt old next dir → IsLeft old next after → IsWellAt old dir → StaysAt index old dir → StaysAt index after dir
left_stays old next after dir index goes left well stays =
    subst (λ (h : Option KeyState). StaysIn index h (part_in after.shelf dir Key) (part_in after.shelf dir Used)) (sym (left.none dir)) (
      left_fixed (key_part old dir) (key_part next dir) (part_in after.shelf dir Key) IsThere
          (left_with_key index (old.held dir) (part_in old.shelf dir Key) (part_in old.shelf dir Used) stays) (goes.key_since index well stays) (left.key dir),
      left_fixed (used_part old dir) (used_part next dir) (part_in after.shelf dir Used) (IsUsed index)
          (left_with_used index (old.held dir) (part_in old.shelf dir Key) (part_in old.shelf dir Used) stays) (goes.used_since index well stays) (left.used dir),
    )

moves_stay : (old new : World) (uses : List IndexUse) (dir : List ℕ) (index : ℕ) → Moves old uses new → IsSoundWorld old → StaysAt index old dir → StaysAt index new dir
moves_stay old new uses dir index (acted was is these acts) sound stays = (acts_go was is these acts sound.tells dir).stays index (sound.well dir) stays
moves_stay old new uses dir index (cut was next after goes left) sound stays = left_stays was next after dir index (goes dir) left (sound.well dir) stays

moves_not_again : (old new : World) (uses : List IndexUse) (dir : List ℕ) (index : ℕ) → Moves old uses new → IsSoundWorld old → StaysAt index old dir → Has uses dir index → ⊥
moves_not_again old new uses dir index (acted was is these acts) sound stays has = acts_not_again was is these dir index acts sound.well stays has
moves_not_again old new uses dir index (cut was next after goes left) sound stays has = has

moves_use : (old new : World) (uses : List IndexUse) (dir : List ℕ) (index : ℕ) → Moves old uses new → IsSoundWorld old → Has uses dir index → StaysAt index new dir
moves_use old new uses dir index (acted was is these acts) sound has = acts_use was is these dir index acts sound.well has
moves_use old new uses dir index (cut was next after goes left) sound has = absurd has

moves_apart : (old new : World) (uses : List IndexUse) → Moves old uses new → AreApart uses
moves_apart old new uses (acted was is these acts) = acts_apart was is these acts
moves_apart old new uses (cut was next after goes left) = tt

-- ---- uses

has_either : (dir : List ℕ) (index : ℕ) (some rest : List IndexUse) → Has (some ++ rest) dir index → Has some dir index ⊎ Has rest dir index
has_either dir index [] rest has = inr has
has_either dir index (this ∷ some) rest (inl same) = inl (inl same)
has_either dir index (this ∷ some) rest (inr later) = elim (has_either dir index some rest later) [
  | inl first ↦ inl (inr first)
  | inr second ↦ inr second
]

apart_both : (some rest : List IndexUse) → AreApart some → AreApart rest → ((dir : List ℕ) (index : ℕ) → Has some dir index → Has rest dir index → ⊥) → AreApart (some ++ rest)
apart_both [] rest first second apart = second
apart_both (this ∷ some) rest first second apart = (
  λ has. elim (has_either this.dir this.index some rest has) [
    | inl here ↦ first.0 here
    | inr later ↦ apart this.dir this.index (inl (refl, refl)) later
  ],
  apart_both some rest first.1 second (λ dir index here. apart dir index (inr here)),
)

-- ---- lists of moves

data Lists : World → List IndexUse → World → Type 0 where
  stops : (world : World) → Lists world [] world
  moves_on : (world mid last : World) (some rest uses : List IndexUse) → Moves world some mid → Lists mid rest last → uses ≡ some ++ rest → Lists world uses last

lists_sound : (world last : World) (uses : List IndexUse) → Lists world uses last → IsSoundWorld world → IsSoundWorld last
lists_sound world last uses (stops here) sound = sound
lists_sound world last uses (moves_on old mid new some rest every move list is) sound = lists_sound mid new rest list (moves_sound old mid some move sound)

lists_stay : (world last : World) (uses : List IndexUse) (dir : List ℕ) (index : ℕ) → Lists world uses last → IsSoundWorld world → StaysAt index world dir → StaysAt index last dir
lists_stay world last uses dir index (stops here) sound stays = stays
lists_stay world last uses dir index (moves_on old mid new some rest every move list is) sound stays =
    lists_stay mid new rest dir index list (moves_sound old mid some move sound) (moves_stay old mid some dir index move sound stays)

lists_not_again : (world last : World) (uses : List IndexUse) (dir : List ℕ) (index : ℕ) → Lists world uses last → IsSoundWorld world → StaysAt index world dir → Has uses dir index → ⊥
lists_not_again world last uses dir index (stops here) sound stays has = has
lists_not_again world last uses dir index (moves_on old mid new some rest every move list is) sound stays has =
    elim (has_either dir index some rest (subst (λ (l : List IndexUse). Has l dir index) is has)) [
      | inl now ↦ moves_not_again old mid some dir index move sound stays now
      | inr later ↦ lists_not_again mid new rest dir index list (moves_sound old mid some move sound) (moves_stay old mid some dir index move sound stays) later
    ]

lists_apart : (world last : World) (uses : List IndexUse) → Lists world uses last → IsSoundWorld world → AreApart uses
lists_apart world last uses (stops here) sound = tt
lists_apart world last uses (moves_on old mid new some rest every move list is) sound =
    let next : IsSoundWorld mid = moves_sound old mid some move sound in
    subst AreApart (sym is) (apart_both some rest (moves_apart old mid some move) (lists_apart mid new rest list next)
    (λ dir index now later. lists_not_again mid new rest dir index list next (moves_use old mid some dir index move sound now) later))

lists_use : (world last : World) (uses : List IndexUse) (dir : List ℕ) (index : ℕ) → Lists world uses last → IsSoundWorld world → Has uses dir index → StaysAt index last dir
lists_use world last uses dir index (stops here) sound has = absurd has
lists_use world last uses dir index (moves_on old mid new some rest every move list is) sound has =
    elim (has_either dir index some rest (subst (λ (l : List IndexUse). Has l dir index) is has)) [
      | inl now ↦ lists_stay mid new rest dir index list (moves_sound old mid some move sound) (moves_use old mid some dir index move sound now)
      | inr later ↦ lists_use mid new rest dir index list (moves_sound old mid some move sound) later
    ]

-- ---- calls are such lists

lists_join : (world mid last : World) (some rest : List IndexUse) → Lists world some mid → Lists mid rest last → Lists world (some ++ rest) last
lists_join world mid last some rest (stops here) second = second
lists_join world mid last some rest (moves_on old between new now later all move list is) second =
    moves_on old between last now (later ++ rest) (all ++ rest) move (lists_join between new last later rest list second) (ap (λ (l : List IndexUse). l ++ rest) is ∙ append_assoc now later rest)

runs_list : (world last : World) (uses : List IndexUse) → Runs world uses last → Lists world uses last
runs_list world last uses (ends here) = stops here
runs_list world last uses (goes_on old mid new some rest every acts run is) = moves_on old mid new some rest every (acted old mid some acts) (runs_list mid new rest run) is

-- a crash at the end of a list
then_cut : (world mid next after : World) (uses : List IndexUse) → Lists world uses mid → ((dir : List ℕ) → GoesAt mid next dir) → IsLeft mid next after → Lists world uses after
then_cut world mid next after uses list goes left =
    subst (λ (l : List IndexUse). Lists world l after) (append-nil uses)
    (lists_join world mid after uses [] list (moves_on mid after after [] [] [] (cut mid next after goes left) (stops after) refl))

stays_same : (world : World) (dir : List ℕ) → GoesAt world world dir
stays_same world dir =
    goes_same (world.held dir) (world.held dir) (part_in world.shelf dir Key) (part_in world.shelf dir Key) (part_in world.shelf dir Used) (part_in world.shelf dir Used) refl refl refl

calls_list : (world last : World) (uses : List IndexUse) → Calls world uses last → IsSoundWorld world → Lists world uses last
calls_list world last uses (came_whole old new these run) sound = runs_list old new these run
calls_list world last uses (cut_within old mid next new after these under_way rest run acts other left) sound =
    let list = runs_list old mid these run in
    then_cut old mid next after these list (acts_go mid next under_way acts (lists_sound old mid these list sound).tells) left
calls_list world last uses (cut_between old mid new after these rest run other left) sound = then_cut old mid mid after these (runs_list old mid these run) (stays_same mid) left

history_list : (world last : World) (uses : List IndexUse) → Histories world uses last → IsSoundWorld world → Lists world uses last
history_list world last uses (no_call here) sound = stops here
history_list world last uses (then_call old mid new some rest these calls history is) sound =
    let list = calls_list old mid some calls sound in
    subst (λ (l : List IndexUse). Lists old l new) (sym is) (lists_join old mid new some rest list (history_list mid new rest history (lists_sound old mid some list sound)))

-- ---- the laws

used_in : (world : World) (dir : List ℕ) (index : ℕ) → StaysAt index world dir → IsUsedIn world dir index
used_in world dir index stays = left_with_used index (world.held dir) (part_in world.shelf dir Key) (part_in world.shelf dir Used) stays

pub signed_once : (start last : World) (uses : List IndexUse) → IsSoundWorld start → Histories start uses last → AreApart uses
signed_once start last uses sound history = lists_apart start last uses (history_list start last uses history sound) sound

pub signed_used : (start last : World) (uses : List IndexUse) (dir : List ℕ) (index : ℕ) → IsSoundWorld start → Histories start uses last → Has uses dir index → IsUsedIn last dir index
signed_used start last uses dir index sound history has = used_in last dir index (lists_use start last uses dir index (history_list start last uses history sound) sound has)

pub history_sound : (start last : World) (uses : List IndexUse) → IsSoundWorld start → Histories start uses last → IsSoundWorld last
history_sound start last uses sound history = lists_sound start last uses (history_list start last uses history sound) sound

pub runs_sound : (start last : World) (uses : List IndexUse) → IsSoundWorld start → Runs start uses last → IsSoundWorld last
runs_sound start last uses sound run = lists_sound start last uses (runs_list start last uses run) sound

-- a key that is open
pub open_well : (world : World) (dir : List ℕ) (key : KeyState) → IsSoundWorld world → world.held dir ≡ Some key → IsWell (Some key) (part_in world.shelf dir Key) (part_in world.shelf dir Used)
open_well world dir key sound held = subst (λ (h : Option KeyState). IsWell h (part_in world.shelf dir Key) (part_in world.shelf dir Used)) held (sound.well dir)

-- an index of one that each crash leaves used
key_stays : (world : World) (dir : List ℕ) (index : ℕ) (key : KeyState) → IsSoundWorld world → world.held dir ≡ Some key → EveryImage key.parts.used.now (IsUsed index) → StaysAt index world dir
key_stays world dir index key sound held used =
    let well = open_well world dir key sound held in
    subst (λ (h : Option KeyState). StaysIn index h (part_in world.shelf dir Key) (part_in world.shelf dir Used)) (sym held) (settled_image key.parts.key IsThere well.settled well.there, used)

pub stays_used : (mid last : World) (more : List IndexUse) (dir : List ℕ) (index : ℕ) (key : KeyState) → IsSoundWorld mid → mid.held dir ≡ Some key → EveryImage key.parts.used.now (IsUsed index) → Histories mid more last
    → (Has more dir index → ⊥) × IsUsedIn last dir index
stays_used mid last more dir index key sound held used history =
    let list = history_list mid last more history sound in
    let stays = key_stays mid dir index key sound held used in
    (lists_not_again mid last more dir index list sound stays, used_in last dir index (lists_stay mid last more dir index list sound stays))
