-- A directory that is opened, over which something is done, and that is closed.
use Rattle.std.proofs.Common.{◌≡◌, ℕ, ◌≤◌, List, refl, sym, ◌∙◌, ap, subst, IfSome, IsTrue, Option, None, Some, Err, arith, option_map}
use Rattle.rand_core.specs.Stream.{Stream}
use Rattle.bec_bytes.specs.Causes.{Rose}
use Rattle.bec_disk.specs.declared.part.Part.TheVariants.{Schema, Updates, Key, Used}
use Rattle.bec_disk.specs.Disk.{DiskState}
use Rattle.bec_disk.specs.Shelf.{ShelfState}
use Rattle.bec_disk.specs.Slot.{slot}
use Rattle.key_index.specs.KeyState.{KeyState}
use Rattle.key_directory.specs.Parts.{IsHome}
use Rattle.key_directory.specs.declared.key_refusal.KeyRefusal.TheVariants as key_refusals
use Rattle.key_directory.proofs.Putting.{told}
use Rattle.store_directory.specs.declared.open_refusal.OpenRefusal.{OpenRefusal}
use Rattle.store_directory.specs.declared.open_refusal.OpenRefusal.TheVariants as open_refusals
use Rattle.store_directory.specs.declared.opening.Needs.{Needs}
use Rattle.store_directory.specs.declared.opening.Needs.TheVariants as needed
use Rattle.store_directory.specs.declared.store_refusal.StoreRefusal.TheVariants as store_refusals
use Rattle.store_directory.specs.Holding.{OpenData, PutsStore}
use Rattle.store_directory.specs.Opening.{Closes, IsKeyIn, IsKeyOut, IsStoreOut, LetsAllGo, Opens, Refuses}
use Rattle.store_directory.specs.Stores.{StoreData}
use Rattle.store_directory.proofs.OnceOpen.{disks_of}
use Rattle.store_directory.proofs.Readings.{OneSchema}
use Rattle.outcomes.specs.Comes.{IsSourceFault, ReadsStoreOnly}
use Rattle.outcomes.specs.Outcome.{Outcome, from_open}
use Rattle.outcomes.specs.Outside.{Outside}
use Rattle.outcomes.specs.StoreAnswers.{Printing, ReadsStore}
use Rattle.outcomes.proofs.Reading.{open_answered, open_refused, opened_out}
use Rattle.node_commands.specs.declared.working.Work.{Work}
use Rattle.node_commands.specs.declared.working.Work.TheVariants.{Heads, Dump, Export, Query, Notes, Apply, Join}
use Rattle.node_commands.specs.Asking.{QueryAnswer}
use Rattle.node_commands.specs.Shows.{ShowsHeads, ShowsNotes, ShowsRecords, ShowsTables}
use Rattle.node_commands.specs.Signing.{ApplyAnswer, IsNoStop, JoinAnswer, MakesUpdate, SignAnswer}
use Rattle.node_commands.specs.Works.{Beside, Does, DoesOpen, HasKeyFor, ReadsOpen, SignsWith, beside_of, needs_of}
use Rattle.node_commands.proofs.Signs.{key_disks, signs_keyed, signs_stored, signs_unopened}

-- ---- before

-- the parts of the key are in their places where all are
pub key_is_in : (needs : Needs) (shelf : ShelfState) (dir : List ℕ) → IsHome shelf → IsKeyIn needs shelf dir
key_is_in needed.Store shelf dir home = tt
key_is_in needed.StoreAndKey shelf dir home = (home (slot dir Key), home (slot dir Used))

-- the key is open where it is needed
pub key_for : (needs : Needs) (before after : ShelfState) (dir : List ℕ) (store : OpenData) (key : Option KeyState) → Opens needs before dir store key after → HasKeyFor needs key
key_for needed.Store before after dir store key opens = tt
key_for needed.StoreAndKey before after dir store None opens = opens
key_for needed.StoreAndKey before after dir store (Some key) opens = tt

-- ---- over what is open

-- ---- what is put back

reads_out : {S R : Type 0} → (Answers : StoreData → Outcome → Type 0) (one two : Beside S R) (before opened : ShelfState) (dir : List ℕ) (store : OpenData) (key : Option KeyState) (store_new : OpenData) (key_new : Option KeyState) (outcome : Outcome)
    → Opens needed.Store before dir store key opened → ReadsOpen Answers one two store key store_new key_new outcome → IsTrue opened.tells
    → IsStoreOut opened dir store_new.schema store_new.replica × IfSome key_new (IsKeyOut opened dir)
reads_out Answers one two before opened dir store key store_new key_new outcome opens reads tells =
    subst (λ (s : OpenData). IsStoreOut opened dir s.schema s.replica × IfSome key_new (IsKeyOut opened dir)) (sym reads.same_store)
    (subst (λ (k : Option KeyState). IsStoreOut opened dir store.schema store.replica × IfSome k (IsKeyOut opened dir)) (sym reads.same_key)
    (opened_out before opened dir store key opens tells))

signs_out : (Answer : SignAnswer) (Stops : Outcome → Type 0) (stream stream_new : Stream) (before opened : ShelfState) (dir : List ℕ) (store : OpenData) (key : Option KeyState) (store_new : OpenData) (key_new : Option KeyState) (outcome : Outcome)
    → Opens needed.StoreAndKey before dir store key opened → SignsWith Answer Stops stream stream_new store key store_new key_new outcome → IsTrue opened.tells
    → IsStoreOut opened dir store_new.schema store_new.replica × IfSome key_new (IsKeyOut opened dir)
signs_out Answer Stops stream stream_new before opened dir store None store_new key_new outcome opens signs tells = absurd opens
signs_out Answer Stops stream stream_new before opened dir store (Some key) store_new None outcome opens signs tells = absurd signs
signs_out Answer Stops stream stream_new before opened dir store (Some key) store_new (Some key_new) outcome opens signs tells =
    let between_tells : IsTrue opens.between.tells = told opened.tells opens.between.tells (sym opens.takes_key.tells) tells in
    let before_tells : IsTrue before.tells = told opens.between.tells before.tells (sym opens.takes.tells) between_tells in
    let works = signs.1.works (λ log_tells. (opens.takes.updates before_tells).2.clean refl) store refl in
    let disks = disks_of dir before opens.between opened store store_new.replica opens.takes opens.takes_key.tells works.any_moment.disk.slot
    (λ t. (opens.takes_key.others (slot dir Schema) refl, opens.takes_key.others (slot dir Updates) refl)) tells in
    let keys = key_disks opens.between opened dir key key_new opens.takes_key signs.1.works_with tells in
    (record { schema_of = (ap (λ (d : DiskState). d.slot) signs.0 ∙ disks.0.0, disks.0.1); updates_of = disks.1 }, record { key_of = keys.0; used_of = keys.1 })

-- what was opened is out, whatever was done over it
pub work_out : {S R : Type 0} → (work : Work) (one two : Beside S R) (before opened : ShelfState) (dir : List ℕ) (store : OpenData) (key : Option KeyState) (store_new : OpenData) (key_new : Option KeyState) (outcome : Outcome)
    → Opens (needs_of work) before dir store key opened → DoesOpen work one two store key store_new key_new outcome → IsTrue opened.tells
    → IsStoreOut opened dir store_new.schema store_new.replica × IfSome key_new (IsKeyOut opened dir)
work_out Heads one two before opened dir store key store_new key_new outcome opens does tells = reads_out (Printing ShowsHeads) one two before opened dir store key store_new key_new outcome opens does tells
work_out (Dump json) one two before opened dir store key store_new key_new outcome opens does tells = reads_out (Printing (ShowsTables json)) one two before opened dir store key store_new key_new outcome opens does tells
work_out (Export updates_only) one two before opened dir store key store_new key_new outcome opens does tells =
    reads_out (Printing (ShowsRecords updates_only)) one two before opened dir store key store_new key_new outcome opens does tells
work_out (Query text json) one two before opened dir store key store_new key_new outcome opens does tells = reads_out (QueryAnswer text.now json) one two before opened dir store key store_new key_new outcome opens does tells
work_out Notes one two before opened dir store key store_new key_new outcome opens does tells = reads_out (Printing ShowsNotes) one two before opened dir store key store_new key_new outcome opens does tells
work_out (Apply note) one two before opened dir store key store_new key_new outcome opens does tells =
    signs_out (ApplyAnswer (option_map (λ text. text.now) note) one.left two.left one.stream) (IsSourceFault one.source_faults two.source_faults) one.stream two.stream before opened dir store key store_new key_new outcome opens does tells
work_out Join one two before opened dir store key store_new key_new outcome opens does tells =
    signs_out (JoinAnswer one.stream) IsNoStop one.stream two.stream before opened dir store key store_new key_new outcome opens does.0 tells

-- ---- what it comes to

signs_done : (Unused : Type 0) (Answer : SignAnswer) (Stops : Outcome → Type 0) (stream stream_new : Stream) (dir : List ℕ) (before opened after : ShelfState) (old counted new : ℕ)
    (store : OpenData) (key : Option KeyState) (store_new : OpenData) (key_new : Option KeyState) (outcome : Outcome) → OneSchema → (IsTrue before.tells → IsHome before)
    → Opens needed.StoreAndKey before dir store key opened → old ≤ counted → SignsWith Answer Stops stream stream_new store key store_new key_new outcome → Closes opened counted dir store_new key_new after new
    → MakesUpdate Unused Answer Stops stream stream_new dir before after old new outcome
signs_done Unused Answer Stops stream stream_new dir before opened after old counted new store None store_new key_new outcome one home opens later signs closes = absurd opens
signs_done Unused Answer Stops stream stream_new dir before opened after old counted new store (Some key) store_new None outcome one home opens later signs closes = absurd signs
signs_done Unused Answer Stops stream stream_new dir before opened after old counted new store (Some key) store_new (Some key_new) outcome one home opens later signs closes =
    signs_stored Unused Answer Stops stream stream_new dir before after old new one opens.between closes.between old closes.counted store store_new.replica outcome home opens.takes
    (signs_keyed Unused Answer Stops stream stream_new dir opens.between closes.between old closes.counted opened counted store.replica store_new.replica key key_new outcome opens.takes_key signs.1
    closes.puts_key closes.reads later closes.later closes.used_faulted)
    (subst (λ (d : DiskState). PutsStore closes.between dir d store_new.replica.log.disk after) signs.0 closes.closes.puts) (omega arith) closes.closes.later closes.closes.log_faulted

module _ {S H R : Type 0} (dir : List ℕ) (before after : Outside S H R) (home : IsTrue before.store.tells → IsHome before.store) where
  module _ (why : OpenRefusal) (source : after.source ≡ before.source) (random : after.random ≡ before.random) (stream : after.stream ≡ before.stream)
      (store_rose : why ≡ open_refusals.Store store_refusals.DiskFault → Rose before.shelf_faults after.shelf_faults) (key_rose : why ≡ open_refusals.Key key_refusals.DiskFault → Rose before.shelf_faults after.shelf_faults) where
    reads_not : (Answers : StoreData → Outcome → Type 0) → LetsAllGo needed.Store before.store dir after.store → Refuses why needed.Store before.store dir → ReadsStoreOnly (ReadsStore Answers) dir before after (Err (from_open why))
    reads_not Answers lets cause = record {
      runs = open_refused Answers dir before.store after.store before.shelf_faults after.shelf_faults why home lets cause store_rose;
      source = source;
      random = random;
    }

    -- where nothing was opened
    pub work_refused : (work : Work) → LetsAllGo (needs_of work) before.store dir after.store → Refuses why (needs_of work) before.store dir → Does work dir before after (Err (from_open why))
    work_refused Heads lets cause = reads_not (Printing ShowsHeads) lets cause
    work_refused (Dump json) lets cause = reads_not (Printing (ShowsTables json)) lets cause
    work_refused (Export updates_only) lets cause = reads_not (Printing (ShowsRecords updates_only)) lets cause
    work_refused (Query text json) lets cause = reads_not (QueryAnswer text.now json) lets cause
    work_refused Notes lets cause = reads_not (Printing ShowsNotes) lets cause
    work_refused (Apply note) lets cause =
        signs_unopened ((after.source ≡ before.source) × (after.random ≡ before.random)) (ApplyAnswer (option_map (λ text. text.now) note) before.left after.left before.stream)
        (IsSourceFault before.source_faults after.source_faults) before.stream after.stream dir before.store after.store before.shelf_faults after.shelf_faults why home (source, random) lets cause store_rose key_rose stream
    work_refused Join lets cause = record {
      joins = signs_unopened (after.random ≡ before.random) (JoinAnswer before.stream) IsNoStop before.stream after.stream dir before.store after.store before.shelf_faults after.shelf_faults why home random lets cause
          store_rose key_rose stream;
      source = source;
    }

  module _ (opened : ShelfState) (counted : ℕ) (store : OpenData) (key : Option KeyState) (store_new : OpenData) (key_new : Option KeyState) (outcome : Outcome) (one : OneSchema)
      (later : before.shelf_faults ≤ counted) (closes : Closes opened counted dir store_new key_new after.store after.shelf_faults) where
    reads_done : (Answers : StoreData → Outcome → Type 0) → Opens needed.Store before.store dir store key opened → ReadsOpen Answers (beside_of before) (beside_of after) store key store_new key_new outcome
        → ReadsStoreOnly (ReadsStore Answers) dir before after outcome
    reads_done Answers opens reads = record {
      runs = open_answered Answers dir before.store after.store before.shelf_faults after.shelf_faults one opened counted store key outcome home opens
          (subst (λ (s : OpenData). Closes opened counted dir s key after.store after.shelf_faults) reads.same_store
          (subst (λ (k : Option KeyState). Closes opened counted dir store_new k after.store after.shelf_faults) reads.same_key closes)) reads.stands reads.answers;
      source = reads.same_source;
      random = reads.same_random;
    }

    -- where it was done over what was opened
    pub work_done : (work : Work) → Opens (needs_of work) before.store dir store key opened → DoesOpen work (beside_of before) (beside_of after) store key store_new key_new outcome → Does work dir before after outcome
    work_done Heads opens does = reads_done (Printing ShowsHeads) opens does
    work_done (Dump json) opens does = reads_done (Printing (ShowsTables json)) opens does
    work_done (Export updates_only) opens does = reads_done (Printing (ShowsRecords updates_only)) opens does
    work_done (Query text json) opens does = reads_done (QueryAnswer text.now json) opens does
    work_done Notes opens does = reads_done (Printing ShowsNotes) opens does
    work_done (Apply note) opens does =
        signs_done ((after.source ≡ before.source) × (after.random ≡ before.random)) (ApplyAnswer (option_map (λ text. text.now) note) before.left after.left before.stream)
        (IsSourceFault before.source_faults after.source_faults) before.stream after.stream dir before.store opened after.store before.shelf_faults counted after.shelf_faults store key store_new key_new outcome one home
        opens later does closes
    work_done Join opens does = record {
      joins = signs_done (after.random ≡ before.random) (JoinAnswer before.stream) IsNoStop before.stream after.stream dir before.store opened after.store before.shelf_faults counted after.shelf_faults
          store key store_new key_new outcome one home opens later does.0 closes;
      source = does.1;
    }
