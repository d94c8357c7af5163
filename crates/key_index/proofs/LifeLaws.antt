-- Over a life, an index that each crash leaves used stays so and signs nothing more.
use Rattle.std.proofs.Common.{◌≡◌, ◌⊎◌, inl, inr, ℕ, List, [], ◌∷◌, ◌++◌, sym, ◌∙◌, ap, subst, IsTrue, Result, Ok, Err, length, arith, refl}
use Rattle.std.specs.Prelude.{◌+◌, ◌≤◌, ◌==◌, Bool, true, false, if◌then◌else◌, take, drop, MatchOption, Option, Some, None}
use Rattle.byteorder.specs.Endian.{big_bytes, big_number}
use Rattle.std.proofs.Common.{append_assoc, append-nil}
use Rattle.std.proofs.lemmas.List.{append_cancel_right}
use Rattle.std.proofs.lemmas.Bool.Decides.{nat_tests}
use Rattle.bec_disk.specs.Disk.{Moment, DiskState, EveryImage, AllImages, IsImage, IsSameDisk, IsSettled, LeavesOnly, moments}
use Rattle.bec_disk.specs.Gated.{gated_of, whole_of}
use Rattle.bec_disk.specs.declared.gated.Gated.TheVariants.{Absent, Damaged, Whole}
use Rattle.bec_disk.proofs.Images.{settled_image, synced-image}
use Rattle.bec_disk.proofs.Moments.{leaves_now, stays, told}
use Rattle.key_index.specs.Creating.{Creating}
use Rattle.key_index.specs.KeyState.{AreSame, AreSettled, AreTold, KeyParts, KeyState}
use Rattle.key_index.specs.Payload.{payload_of}
use Rattle.key_index.specs.Reserving.{Reserves, Tries}
use Rattle.key_index.specs.Used.{IsUsed, least_unused}
use Rattle.key_index.specs.declared.reserve.Reserve.{Reserve}
use Rattle.lms_tree.specs.SecretKey.{SecretData}
use Rattle.key_index.specs.Lives.{MayLeave, SomeImage, Acts, Calls, Histories, acted, came_whole, cut_between, cut_within, no_call, then_call, AreApart, AreLeft, Closed, Has, IsHandedOut, IsLeft, IsOpen, IsThere, Life, Message, Open, Runs, Steps, created, ends, failed, goes_on, handed_out, opened, parts_in, put_back, refused, signed, stopped_between, stopped_within}

-- ---- images

-- what holds of whatever a crash leaves at these moments, and at one before, holds of these bytes
one_of : (since : List Moment) (now : Moment) (P : List ℕ → Type 0) (image : List ℕ) → AllImages since P → EveryImage now P → SomeImage (since ++ now ∷ []) image → P image
one_of [] now P image each first (inl is) = first image is
one_of [] now P image each first (inr none) = absurd none
one_of (m ∷ since) now P image each first (inl is) = each.0 image is
one_of (m ∷ since) now P image each first (inr other) = one_of since now P image each.1 first other

-- what a run of calls leaves only, a crash in it leaves
left_by : (old new : DiskState) (P : List ℕ → Type 0) (image : List ℕ) → IsTrue old.tells → LeavesOnly old new P → MayLeave old new image → P image
left_by old new P image tells leaves may =
    let run = leaves.run tells in
    let same : run.since ≡ may.since = append_cancel_right run.since may.since (moments old) (sym run.follow ∙ may.follow) in
    one_of may.since old.now P image (subst (λ (since : List Moment). AllImages since P) same run.each) (leaves.first tells) may.moment

-- a part that a crash left of such a run is left so
left_so : (old new after : DiskState) (P : List ℕ → Type 0) → IsTrue old.tells → LeavesOnly old new P → IsLeft old new after → EveryImage after.now P
left_so old new after P tells leaves is = settled_image after P is.settled (left_by old new P after.seen tells leaves is.left)

-- and one that is handed out anew
handed_so : (old new : DiskState) (P : List ℕ → Type 0) → EveryImage old.now P → IsHandedOut old new → EveryImage new.now P
handed_so old new P each is = settled_image new P is.settled (subst P (sym is.seen) (each old.seen is.reads))

-- what each crash leaves of a settled part, it reads as
reads_so : (disk : DiskState) (P : List ℕ → Type 0) → IsSettled disk → EveryImage disk.now P → P disk.seen
reads_so disk P settled each = each disk.seen (subst (λ (m : Moment). IsImage m disk.seen) (sym settled) (synced-image disk.seen))

same_so : (old new : DiskState) (P : List ℕ → Type 0) → new ≡ old → EveryImage old.now P → EveryImage new.now P
same_so old new P same each = subst (λ (d : DiskState). EveryImage d.now P) (sym same) each

-- ---- keys that are there

gate_open : (rest : List ℕ) → 4 ≤ length rest
    → gated_of (1 ∷ rest) ≡ (if length (1 ∷ rest) == 5 + big_number 4 (take 4 rest) then Whole (drop 4 rest) else Damaged)
gate_open rest long = grind (arith, nat_tests)

whole_or_damaged : (b : Bool) (payload : List ℕ) → (if b then Whole payload else Damaged) ≡ Absent → ⊥
whole_or_damaged true payload is = cc
whole_or_damaged false payload is = cc

whole_there : (payload : List ℕ) → IsThere (whole_of payload)
whole_there payload is =
    let rest : List ℕ = big_bytes 4 (length payload) ++ payload in
    whole_or_damaged (length (1 ∷ rest) == 5 + big_number 4 (take 4 rest)) (drop 4 rest) (sym (gate_open rest (omega arith)) ∙ is)

held_there : (payload bytes : List ℕ) → gated_of bytes ≡ Whole payload → IsThere bytes
held_there payload bytes whole absent = cc

-- ---- what a life keeps

-- Both parts tell, and a store is open over a key that is there whatever a crash leaves.
record IsSound (life : Life) : Type 0 where
  pub told : AreTold (parts_in life)
  pub there : IsOpen life → EveryImage (parts_in life).key.now IsThere

-- An index is used whatever a crash leaves, and the key is there.
record StaysUsed (index : ℕ) (life : Life) : Type 0 where
  pub there : EveryImage (parts_in life).key.now IsThere
  pub used : EveryImage (parts_in life).used.now (IsUsed index)

told_after : (old new : KeyParts) → AreTold old → IsSameDisk old.key new.key → IsSameDisk old.used new.used → AreTold new
told_after old new tells key used = (told old.key new.key key tells.0, told old.used new.used used tells.1)

told_same : (old new : KeyParts) → AreTold old → AreSame old new → AreTold new
told_same old new tells same = (subst (λ (d : DiskState). IsTrue d.tells) (sym same.key_same) tells.0, subst (λ (d : DiskState). IsTrue d.tells) (sym same.used_same) tells.1)

told_signing : (store next : KeyState) (result : Result ℕ Reserve) → AreTold store.parts → Reserves store result next → next.parts.key ≡ store.parts.key → AreTold next.parts
told_signing store next result tells reserves same = (subst (λ (d : DiskState). IsTrue d.tells) (sym same) tells.0, told store.parts.used next.parts.used reserves.disk tells.1)

-- a reservation leaves the part Key alone
key_alone : (store next : KeyState) (result : Result ℕ Reserve) → Reserves store result next → next.parts.key ≡ store.parts.key
key_alone store next result reserves = by (least_unused store.taken) reserves.tries
  where
    by : (least : Option ℕ) → MatchOption least (next ≡ store) (λ index. Tries store index next) → next.parts.key ≡ store.parts.key
    by None same = ap (λ (s : KeyState). s.parts.key) same
    by (Some index) tries = tries.key

left_told : (old new after : KeyParts) → AreLeft old new after → AreTold after
left_told old new after left = (left.key.tells, left.used.tells)

-- each step leaves a life sound
acts_sound : (life next : Life) (some : List Message) → Acts life some next → IsSound life → IsSound next
acts_sound life next some (refused secret old new settled creating) sound = record {
  told = told_after old new sound.told creating.any_moment.disk creating.used_disk;
  there = λ is_open. absurd is_open;
}
acts_sound life next some (created secret old store settled made) sound = record {
  told = told_after old store.parts sound.told made.creating.any_moment.disk made.creating.used_disk;
  there = λ is_open.
      let on_disk = made.key sound.told.0 in
      settled_image store.parts.key IsThere on_disk.settled (subst IsThere (sym on_disk.seen) (whole_there (payload_of secret)));
}
acts_sound life next some (opened old store settled opens) sound = record {
  told = told_same old store.parts sound.told opens.same;
  there = λ is_open.
      let holds = opens.holds sound.told.0 in
      same_so old.key store.parts.key IsThere opens.same.key_same (settled_image old.key IsThere (settled.key_settled sound.told.0) (held_there holds.payload old.key.seen holds.whole));
}
acts_sound life next some (failed store after why reserves) sound = record {
  told = told_signing store after (Err why) sound.told reserves (key_alone store after (Err why) reserves);
  there = λ is_open. same_so store.parts.key after.parts.key IsThere (key_alone store after (Err why) reserves) (sound.there tt);
}
acts_sound life next some (signed store after index message reserves) sound = record {
  told = told_signing store after (Ok index) sound.told reserves (key_alone store after (Ok index) reserves);
  there = λ is_open. same_so store.parts.key after.parts.key IsThere (key_alone store after (Ok index) reserves) (sound.there tt);
}
acts_sound life next some (put_back store) sound = record { told = sound.told; there = λ is_open. absurd is_open }

step_sound : (life next : Life) (some : List Message) → Steps life some next → IsSound life → IsSound next
step_sound life next some (acted old new these acts) sound = acts_sound old new these acts sound
step_sound life next some (handed_out old new handed) sound = record { told = (handed.key.tells, handed.used.tells); there = λ is_open. absurd is_open }
step_sound life next some (stopped_between old after left) sound = record { told = left_told (parts_in old) (parts_in old) after left; there = λ is_open. absurd is_open }
step_sound life next some (stopped_within old mid under_way after acts left) sound = record { told = left_told (parts_in old) (parts_in mid) after left; there = λ is_open. absurd is_open }

-- What a step does to both parts where an index stays used: the key is there and the index used at each of its moments.
record StaysThrough (index : ℕ) (old new : KeyParts) : Type 0 where
  pub there : LeavesOnly old.key new.key IsThere
  pub used : LeavesOnly old.used new.used (IsUsed index)

through_same : (index : ℕ) (life : Life) (new : KeyParts) → AreTold (parts_in life) → AreSame (parts_in life) new → StaysUsed index life → StaysThrough index (parts_in life) new
through_same index life new tells same stays_used = record {
  there = stays (parts_in life).key new.key IsThere same.key_same (λ _. stays_used.there);
  used = stays (parts_in life).used new.used (IsUsed index) same.used_same (λ _. stays_used.used);
}

through_signing : (index : ℕ) (store next : KeyState) (result : Result ℕ Reserve) → Reserves store result next → StaysUsed index (Open store) → StaysThrough index store.parts next.parts
through_signing index store next result reserves stays_used = record {
  there = stays store.parts.key next.parts.key IsThere (key_alone store next result reserves) (λ _. stays_used.there);
  used = reserves.kept index (λ _. stays_used.used);
}

-- a creation finds the key there
creation_same : (index : ℕ) (secret : SecretData) (old new : KeyParts) → AreTold old → AreSettled old → Creating secret old new → StaysUsed index (Closed old) → AreSame old new
creation_same index secret old new tells settled creating stays_used = creating.there tells.0 (reads_so old.key IsThere (settled.key_settled tells.0) stays_used.there)

after_through : (index : ℕ) (old : KeyParts) (next : Life) → AreTold old → StaysThrough index old (parts_in next) → StaysUsed index next
after_through index old next tells through = record {
  there = leaves_now old.key (parts_in next).key IsThere through.there tells.0;
  used = leaves_now old.used (parts_in next).used (IsUsed index) through.used tells.1;
}

after_left : (index : ℕ) (old mid after : KeyParts) → AreTold old → StaysThrough index old mid → AreLeft old mid after → StaysUsed index (Closed after)
after_left index old mid after tells through left = record {
  there = left_so old.key mid.key after.key IsThere tells.0 through.there left.key;
  used = left_so old.used mid.used after.used (IsUsed index) tells.1 through.used left.used;
}

-- ---- an index that stays used

acts_through : (index : ℕ) (life next : Life) (some : List Message) → Acts life some next → IsSound life → StaysUsed index life → StaysThrough index (parts_in life) (parts_in next)
acts_through index life next some (refused secret old new settled creating) sound used =
    through_same index (Closed old) new sound.told (creation_same index secret old new sound.told settled creating used) used
acts_through index life next some (created secret old store settled made) sound used =
    through_same index (Closed old) store.parts sound.told (creation_same index secret old store.parts sound.told settled made.creating used) used
acts_through index life next some (opened old store settled opens) sound used = through_same index (Closed old) store.parts sound.told opens.same used
acts_through index life next some (failed store after why reserves) sound used = through_signing index store after (Err why) reserves used
acts_through index life next some (signed store after i message reserves) sound used = through_signing index store after (Ok i) reserves used
acts_through index life next some (put_back store) sound used = through_same index (Open store) store.parts sound.told (record { key_same = refl; used_same = refl }) used

-- signs nothing
acts_not_again : (index : ℕ) (life next : Life) (some : List Message) → Acts life some next → IsSound life → StaysUsed index life → Has some index → ⊥
acts_not_again index life next some (refused secret old new settled creating) sound used has = has
acts_not_again index life next some (created secret old store settled made) sound used has = has
acts_not_again index life next some (opened old store settled opens) sound used has = has
acts_not_again index life next some (failed store after why reserves) sound used has = has
acts_not_again index life next some (signed store after i message reserves) sound used (inl same) = reserves.not_again sound.told.1 index used.used (ap (λ (k : ℕ). Ok k) same)
acts_not_again index life next some (signed store after i message reserves) sound used (inr none) = none
acts_not_again index life next some (put_back store) sound used has = has

steps_stay : (index : ℕ) (life next : Life) (some : List Message) → Steps life some next → IsSound life → StaysUsed index life → StaysUsed index next
steps_stay index life next some (acted old new these acts) sound used = after_through index (parts_in old) new sound.told (acts_through index old new these acts sound used)
steps_stay index life next some (handed_out old new handed) sound used = record {
  there = handed_so old.key new.key IsThere used.there handed.key;
  used = handed_so old.used new.used (IsUsed index) used.used handed.used;
}
steps_stay index life next some (stopped_between old after left) sound used =
    after_left index (parts_in old) (parts_in old) after sound.told (through_same index old (parts_in old) sound.told (record { key_same = refl; used_same = refl }) used) left
steps_stay index life next some (stopped_within old mid under_way after acts left) sound used =
    after_left index (parts_in old) (parts_in mid) after sound.told (acts_through index old mid under_way acts sound used) left

steps_not_again : (index : ℕ) (life next : Life) (some : List Message) → Steps life some next → IsSound life → StaysUsed index life → Has some index → ⊥
steps_not_again index life next some (acted old new these acts) sound used has = acts_not_again index old new these acts sound used has
steps_not_again index life next some (handed_out old new handed) sound used has = has
steps_not_again index life next some (stopped_between old after left) sound used has = has
steps_not_again index life next some (stopped_within old mid under_way after acts left) sound used has = has

-- an index that signed is used from then on
acts_use : (index : ℕ) (life next : Life) (some : List Message) → Acts life some next → IsSound life → Has some index → StaysUsed index next
acts_use index life next some (refused secret old new settled creating) sound has = absurd has
acts_use index life next some (created secret old store settled made) sound has = absurd has
acts_use index life next some (opened old store settled opens) sound has = absurd has
acts_use index life next some (failed store after why reserves) sound has = absurd has
acts_use index life next some (signed store after i message reserves) sound (inl same) = record {
  there = same_so store.parts.key after.parts.key IsThere (key_alone store after (Ok i) reserves) (sound.there tt);
  used = subst (λ (k : ℕ). EveryImage after.parts.used.now (IsUsed k)) same (reserves.reserved sound.told.1).used;
}
acts_use index life next some (signed store after i message reserves) sound (inr none) = absurd none
acts_use index life next some (put_back store) sound has = absurd has

steps_use : (index : ℕ) (life next : Life) (some : List Message) → Steps life some next → IsSound life → Has some index → StaysUsed index next
steps_use index life next some (acted old new these acts) sound has = acts_use index old new these acts sound has
steps_use index life next some (handed_out old new handed) sound has = absurd has
steps_use index life next some (stopped_between old after left) sound has = absurd has
steps_use index life next some (stopped_within old mid under_way after acts left) sound has = absurd has

acts_apart : (life next : Life) (some : List Message) → Acts life some next → AreApart some
acts_apart life next some (refused secret old new settled creating) = tt
acts_apart life next some (created secret old store settled made) = tt
acts_apart life next some (opened old store settled opens) = tt
acts_apart life next some (failed store after why reserves) = tt
acts_apart life next some (signed store after i message reserves) = (λ none. none, tt)
acts_apart life next some (put_back store) = tt

steps_apart : (life next : Life) (some : List Message) → Steps life some next → AreApart some
steps_apart life next some (acted old new these acts) = acts_apart old new these acts
steps_apart life next some (handed_out old new handed) = tt
steps_apart life next some (stopped_between old after left) = tt
steps_apart life next some (stopped_within old mid under_way after acts left) = tt

-- ---- messages

has_either : (index : ℕ) (some rest : List Message) → Has (some ++ rest) index → Has some index ⊎ Has rest index
has_either index [] rest has = inr has
has_either index (message ∷ some) rest (inl same) = inl (inl same)
has_either index (message ∷ some) rest (inr later) = elim (has_either index some rest later) [
  | inl first ↦ inl (inr first)
  | inr second ↦ inr second
]

apart_both : (some rest : List Message) → AreApart some → AreApart rest → ((index : ℕ) → Has some index → Has rest index → ⊥) → AreApart (some ++ rest)
apart_both [] rest first second apart = second
apart_both (message ∷ some) rest first second apart = (
  λ has. elim (has_either message.0 some rest has) [
    | inl here ↦ first.0 here
    | inr later ↦ apart message.0 (inl refl) later
  ],
  apart_both some rest first.1 second (λ index here. apart index (inr here)),
)

-- ---- runs

runs_stay : (index : ℕ) (life last : Life) (all : List Message) → Runs life all last → IsSound life → StaysUsed index life → StaysUsed index last
runs_stay index life last all (ends here) sound used = used
runs_stay index life last all (goes_on old mid new some rest every step run is) sound used =
    runs_stay index mid new rest run (step_sound old mid some step sound) (steps_stay index old mid some step sound used)

runs_not_again : (index : ℕ) (life last : Life) (all : List Message) → Runs life all last → IsSound life → StaysUsed index life → Has all index → ⊥
runs_not_again index life last all (ends here) sound used has = has
runs_not_again index life last all (goes_on old mid new some rest every step run is) sound used has = elim (has_either index some rest (subst (λ (l : List Message). Has l index) is has)) [
  | inl now ↦ steps_not_again index old mid some step sound used now
  | inr later ↦ runs_not_again index mid new rest run (step_sound old mid some step sound) (steps_stay index old mid some step sound used) later
]

runs_apart : (life last : Life) (all : List Message) → Runs life all last → IsSound life → AreApart all
runs_apart life last all (ends here) sound = tt
runs_apart life last all (goes_on old mid new some rest every step run is) sound =
    let next : IsSound mid = step_sound old mid some step sound in
    subst AreApart (sym is) (apart_both some rest (steps_apart old mid some step) (runs_apart mid new rest run next)
    (λ index now later. runs_not_again index mid new rest run next (steps_use index old mid some step sound now) later))

runs_use : (index : ℕ) (life last : Life) (all : List Message) → Runs life all last → IsSound life → Has all index → StaysUsed index last
runs_use index life last all (ends here) sound has = absurd has
runs_use index life last all (goes_on old mid new some rest every step run is) sound has = elim (has_either index some rest (subst (λ (l : List Message). Has l index) is has)) [
  | inl now ↦ runs_stay index mid new rest run (step_sound old mid some step sound) (steps_use index old mid some step sound now)
  | inr later ↦ runs_use index mid new rest run (step_sound old mid some step sound) later
]

sound_closed : (parts : KeyParts) → AreTold parts → IsSound (Closed parts)
sound_closed parts tells = record { told = tells; there = λ is_open. absurd is_open }

pub signed_once : (parts : KeyParts) (all : List Message) (last : Life) → AreTold parts → Runs (Closed parts) all last → AreApart all
signed_once parts all last tells run = runs_apart (Closed parts) last all run (sound_closed parts tells)

pub signed_used : (parts : KeyParts) (all : List Message) (last : Life) (index : ℕ) → AreTold parts → Runs (Closed parts) all last → Has all index → EveryImage (parts_in last).used.now (IsUsed index)
signed_used parts all last index tells run has = (runs_use index (Closed parts) last all run (sound_closed parts tells) has).used

pub stays_signed : (life last : Life) (all : List Message) (index : ℕ) → AreTold (parts_in life) → EveryImage (parts_in life).key.now IsThere → EveryImage (parts_in life).used.now (IsUsed index)
    → Runs life all last → (Has all index → ⊥) × EveryImage (parts_in last).used.now (IsUsed index)
stays_signed life last all index tells there used run =
    let sound : IsSound life = record { told = tells; there = λ is_open. there } in
    let stays_used : StaysUsed index life = record { there = there; used = used } in
    (runs_not_again index life last all run sound stays_used, (runs_stay index life last all run sound stays_used).used)

-- ---- lists of calls

runs_join : (life mid last : Life) (some rest : List Message) → Runs life some mid → Runs mid rest last → Runs life (some ++ rest) last
runs_join life mid last some rest (ends here) second = second
runs_join life mid last some rest (goes_on old between new now later all step run is) second =
    goes_on old between last now (later ++ rest) (all ++ rest) step (runs_join between new last later rest run second) (ap (λ (l : List Message). l ++ rest) is ∙ append_assoc now later rest)

one_step : (life next : Life) (some : List Message) → Steps life some next → Runs life some next
one_step life next some step = goes_on life next next some [] some step (ends next) (sym (append-nil some))

calls_run : (life last : Life) (all : List Message) → Calls life all last → Runs life all last
calls_run life last all (came_whole old new these run) = run
calls_run life last all (cut_within old mid next new these under_way rest after run acts other left) =
    subst (λ (l : List Message). Runs old l (Closed after)) (append-nil these)
    (runs_join old mid (Closed after) these [] run (one_step mid (Closed after) [] (stopped_within mid next under_way after acts left)))
calls_run life last all (cut_between old mid new these rest after run other left) =
    subst (λ (l : List Message). Runs old l (Closed after)) (append-nil these)
    (runs_join old mid (Closed after) these [] run (one_step mid (Closed after) [] (stopped_between mid after left)))

pub history_runs : (life last : Life) (all : List Message) → Histories life all last → Runs life all last
history_runs life last all (no_call here) = ends here
history_runs life last all (then_call old mid new some rest these calls history is) =
    subst (λ (l : List Message). Runs old l new) (sym is) (runs_join old mid new some rest (calls_run old mid some calls) (history_runs mid new rest history))
