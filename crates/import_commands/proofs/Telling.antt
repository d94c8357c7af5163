-- What putting updates into a directory comes to.
use Rattle.std.proofs.Common.{◌≡◌, ◌⊎◌, inl, inr, ℕ, ◌≤◌, Bool, List, [], ◌∷◌, ◌++◌, arith, refl, sym, ap, subst, ◌∙◌, IsTrue, Ok, Err, Some, None, Option, Vec, false}
use Rattle.std.specs.declared.alloc.Global.{Global}
use Rattle.rand_core.specs.Stream.{Stream}
use Rattle.bec_bytes.specs.Causes.{Rose}
use Rattle.bec_disk.specs.declared.gated.Gated.TheVariants.{Whole}
use Rattle.bec_disk.specs.declared.part.Part.TheVariants.{Schema, Updates, Key, Used}
use Rattle.bec_disk.specs.Disk.{LeavesSince, moments}
use Rattle.bec_disk.specs.Gated.{IsOldOrNew, gated_of}
use Rattle.bec_disk.specs.Shelf.{PartState, ShelfState, absent, moments_of, out, stands}
use Rattle.bec_disk.specs.Slot.{slot}
use Rattle.bec_disk.proofs.Moments.{no_moment, since_then, since_weakened}
use Rattle.confluence_test.specs.Taking.{TakesSchema}
use Rattle.key_directory.proofs.Making.{untouched_since, untouched_then}
use Rattle.key_directory.proofs.Places.{keeps_through}
use Rattle.key_directory.proofs.Putting.{told}
use Rattle.key_directory.specs.Parts.{IsHome, IsUntouched, part_in, reading, seen_in}
use Rattle.node_commands.proofs.NewStores.{TakenOrRefused}
use Rattle.node_commands.specs.Creating.{InitAnswer, IsInitEnd, created, refused, there as store_there}
use Rattle.outcomes.proofs.Saying.{rose_later}
use Rattle.outcomes.proofs.StoreOnce.{StoreLaws, read_or_refused}
use Rattle.outcomes.specs.Comes.{IsAnyFault, IsShelfFault, is_done, readings}
use Rattle.outcomes.specs.Outcome.{Outcome}
use Rattle.outcomes.specs.Parts.{LeavesOldOrNew}
use Rattle.outcomes.specs.StoreAnswers.{HasStore, Readings, bad_store as bad, next_bytes, no_store}
use Rattle.outcomes.specs.Texts.{database_text}
use Rattle.outcomes.specs.declared.refusal.Refusal.{Refusal}
use Rattle.outcomes.specs.declared.refusal.Refusal.TheVariants as refusals
use Rattle.row_check.specs.Checksum.{is_luhn}
use Rattle.schema.specs.Data.{SchemaData}
use Rattle.store_directory.specs.Stores.{IsNoStore, IsStore, KeepsList, ReadsAs, StoreData, StoreRun}
use Rattle.store_directory.proofs.Handing.{list_as_it_was}
use Rattle.import_commands.specs.Importing.{IsNotThere, IsThere, LooksThere, PutsIn, made, not_made, taken, unknown}
use Rattle.import_commands.specs.Making.{MakesEmpty}
use Rattle.import_commands.specs.Taking.{ContentsData, IsTakeEnd, StoreAnswer, TakeAnswer, TakesInto, answered, refused as store_refused}
use Rattle.import_commands.specs.Told.{IsToldOfPut, PutAnswer, bad_store, into_new, into_store, made_store}
use Rattle.import_commands.proofs.Looking.{home_looked, looked_others, none_still}

-- ---- parts that were at most read

reading_still : (old new : PartState) → IsUntouched old new → reading new ≡ reading old
reading_still (stands old) (stands new) same = ap Some same.0
reading_still (stands old) absent same = absurd same
reading_still (stands old) out same = absurd same
reading_still absent new same = ap reading same
reading_still out new same = ap reading same

untouched_on : (old mid new : PartState) → IsUntouched old mid → IsUntouched mid new → IsUntouched old new
untouched_on (stands old) (stands mid) (stands new) first second = (
  second.0 ∙ first.0,
  since_then (moments old) (moments mid) (moments new) (λ image. image ≡ old.seen) first.1
      (since_weakened (moments mid) (moments new) (λ image. image ≡ mid.seen) (λ image. image ≡ old.seen) second.1 (λ image is. is ∙ first.0)),
)
untouched_on (stands old) (stands mid) absent first second = absurd second
untouched_on (stands old) (stands mid) out first second = absurd second
untouched_on (stands old) absent new first second = absurd first
untouched_on (stands old) out new first second = absurd first
untouched_on absent mid new first second = by mid first second
  where
    by : (mid : PartState) → mid ≡ absent → IsUntouched mid new → new ≡ absent
    by mid is second = subst (λ (p : PartState). IsUntouched p new) is second
untouched_on out mid new first second = by mid first second
  where
    by : (mid : PartState) → mid ≡ out → IsUntouched mid new → new ≡ out
    by mid is second = subst (λ (p : PartState). IsUntouched p new) is second

-- a part that was written as a gated part is, and then at most read
gated_then : (old mid new : PartState) (payload : List ℕ) → LeavesSince (moments_of old) (moments_of mid) (IsOldOrNew (seen_in old) payload) → IsUntouched mid new
    → gated_of (seen_in mid) ≡ Whole payload → LeavesSince (moments_of old) (moments_of new) (IsOldOrNew (seen_in old) payload)
gated_then old mid new payload run same whole = since_then (moments_of old) (moments_of mid) (moments_of new) (IsOldOrNew (seen_in old) payload) run (by mid new same whole)
  where
    by : (mid new : PartState) → IsUntouched mid new → gated_of (seen_in mid) ≡ Whole payload → LeavesSince (moments_of mid) (moments_of new) (IsOldOrNew (seen_in old) payload)
    by (stands m) (stands n) same whole = since_weakened (moments m) (moments n) (λ image. image ≡ m.seen) (IsOldOrNew (seen_in old) payload) same.1 (λ image is. inr (inl (ap gated_of is ∙ whole)))
    by (stands m) absent same whole = absurd same
    by (stands m) out same whole = absurd same
    by absent new same whole = no_moment [] (moments_of new) (IsOldOrNew (seen_in old) payload) (ap moments_of same)
    by out new same whole = no_moment [] (moments_of new) (IsOldOrNew (seen_in old) payload) (ap moments_of same)

-- what the part Schema of a store stands for
whole_in : (part : PartState) (updates : Option (List ℕ)) (store : StoreData) → ReadsAs is_luhn (reading part) updates store → gated_of (seen_in part) ≡ Whole (store.node ++ store.schema.text)
whole_in absent updates store is = absurd is
whole_in out updates store is = absurd is
whole_in (stands part) None store is = absurd is
whole_in (stands part) (Some bytes) store is = is.0.whole

-- ---- after a look

module _ (dir : List ℕ) (before mid : ShelfState) (old counted : ℕ) (looks : LooksThere dir before mid old counted) (tells : IsTrue before.tells) where
  mid_tells : IsTrue mid.tells
  mid_tells = told before.tells mid.tells looks.tells tells

  schema_same : reading (part_in mid dir Schema) ≡ reading (part_in before dir Schema)
  schema_same = reading_still (part_in before dir Schema) (part_in mid dir Schema) (looks.untouched tells)

  updates_same : part_in mid dir Updates ≡ part_in before dir Updates
  updates_same = looks.others tells (slot dir Updates) refl

  readings_same : readings mid dir ≡ readings before dir
  readings_same =
      ap (λ (s : Option (List ℕ)). let r : Readings = record { schema = s; updates = reading (part_in mid dir Updates); key = reading (part_in mid dir Key); used = reading (part_in mid dir Used) } in r) schema_same
      ∙ ap (λ (p : PartState). let r : Readings = record { schema = reading (part_in before dir Schema); updates = reading p; key = reading (part_in mid dir Key); used = reading (part_in mid dir Used) } in r) updates_same
      ∙ ap (λ (p : PartState). let r : Readings = record { schema = reading (part_in before dir Schema); updates = reading (part_in before dir Updates); key = reading p; used = reading (part_in mid dir Used) } in r)
      (looks.others tells (slot dir Key) refl)
      ∙ ap (λ (p : PartState). let r : Readings = record { schema = reading (part_in before dir Schema); updates = reading (part_in before dir Updates); key = reading (part_in before dir Key); used = reading p } in r)
      (looks.others tells (slot dir Used) refl)

  store_still : (store : StoreData) → IsStore is_luhn before dir store → IsStore is_luhn mid dir store
  store_still store is =
      subst (λ (r : Option (List ℕ)). ReadsAs is_luhn r (reading (part_in mid dir Updates)) store) (sym schema_same)
      (subst (λ (p : PartState). ReadsAs is_luhn (reading (part_in before dir Schema)) (reading p) store) (sym updates_same) is)

  looked_run : (after : ShelfState) (added : List (List ℕ)) (done : Bool) → StoreRun is_luhn mid after dir added done → StoreRun is_luhn before after dir added done
  looked_run after added done run = record {
    list = λ store is. subst (λ (p : PartState). KeepsList store added p (part_in after dir Updates)) updates_same (run.list store (store_still store is));
    reads = λ is_done store is. run.reads is_done store (store_still store is);
    schema = untouched_on (part_in before dir Schema) (part_in mid dir Schema) (part_in after dir Schema) (looks.untouched tells) run.schema;
  }

  -- where nothing else was done
  looked_only : StoreRun is_luhn before mid dir [] false
  looked_only = record {
    list = λ store is. list_as_it_was is_luhn (reading (part_in before dir Schema)) store (part_in before dir Updates) (part_in mid dir Updates) is updates_same;
    reads = λ is_done. absurd cc;
    schema = looks.untouched tells;
  }

-- ---- faults

not_failed : (old new : ℕ) → IsTakeEnd (Err refusals.StoreFault) ⊎ IsShelfFault old new (Err refusals.StoreFault) → Rose old new
not_failed old new (inl end) = absurd end
not_failed old new (inr (inl memory)) = absurd cc
not_failed old new (inr (inr failed)) = failed.1

take_failed : (old new : ℕ) (outcome : Outcome) → IsTakeEnd outcome ⊎ IsShelfFault old new outcome → outcome ≡ Err refusals.StoreFault → Rose old new
take_failed old new outcome ends is = not_failed old new (subst (λ (o : Outcome). IsTakeEnd o ⊎ IsShelfFault old new o) is ends)

later_fault : (old mid new : ℕ) (outcome : Outcome) → old ≤ mid → IsShelfFault mid new outcome → IsShelfFault old new outcome
later_fault old mid new outcome later (inl memory) = inl memory
later_fault old mid new outcome later (inr failed) = inr (failed.0, rose_later old mid new later failed.1)

done_of_fault : (old new : ℕ) (outcome : Outcome) → IsShelfFault old new outcome → is_done outcome ≡ false
done_of_fault old new outcome (inl memory) = ap is_done memory
done_of_fault old new outcome (inr failed) = ap is_done failed.0

-- ---- a store that was made

no_fault_done : (a b old new : ℕ) (text : Vec ℕ Global) → IsAnyFault a b old new (Ok text) → ⊥
no_fault_done a b old new text (inl stream) = let never = stream.0 in cc
no_fault_done a b old new text (inr (inl memory)) = cc
no_fault_done a b old new text (inr (inr failed)) = let never = failed.0 in cc

never_read : (old new : ℕ) (refusal : Refusal) → IsAnyFault 0 0 old new (Err refusal) → IsShelfFault old new (Err refusal)
never_read old new refusal (inl stream) = absurd (omega (arith, stream.1))
never_read old new refusal (inr fault) = fault

-- what it is that was made
record IsMade (text : List ℕ) (stream : Stream) (parts later : Readings) (lines : Vec ℕ Global) : Type 0 where
  schema : SchemaData
  none : IsNoStore parts.schema
  takes : TakesSchema is_luhn text schema
  has : HasStore later (made_store stream schema)
  prints : lines.items ≡ database_text schema.rule.database

made_of : (text : List ℕ) (left : Option (List ℕ)) (stream : Stream) (parts later : Readings) (lines : Vec ℕ Global) → InitAnswer (Some text) left stream parts later (Ok lines) → IsMade text stream parts later lines
made_of text left stream parts later lines (store_there has is) = absurd cc
made_of text left stream parts later lines (refused read why none whole refuses is) = absurd cc
made_of text left stream parts later lines (created read schema none whole takes has prints) =
    record { schema = schema; none = none; takes = subst (λ (t : List ℕ). TakesSchema is_luhn t schema) whole.0 takes; has = has; prints = prints }

-- a text of a schema is not refused where there is no store
never_refused : TakenOrRefused → (text : List ℕ) (schema : SchemaData) → TakesSchema is_luhn text schema → (left : Option (List ℕ)) (stream : Stream) (parts later : Readings) (refusal : Refusal)
    → IsNoStore parts.schema → InitAnswer (Some text) left stream parts later (Err refusal) → ⊥
never_refused either text schema takes left stream parts later refusal none (store_there has is) = has none
never_refused either text schema takes left stream parts later refusal none (refused read why gone whole refuses is) =
    either is_luhn read schema why (subst (λ (t : List ℕ). TakesSchema is_luhn t schema) (sym whole.0) takes) refuses
never_refused either text schema takes left stream parts later refusal none (created read other gone whole taken_too has prints) = prints

init_failed : (a b old new : ℕ) → IsInitEnd (Err refusals.StoreFault) ⊎ IsAnyFault a b old new (Err refusals.StoreFault) → Rose old new
init_failed a b old new (inl end) = absurd end
init_failed a b old new (inr (inl stream)) = absurd (let never = stream.0 in cc)
init_failed a b old new (inr (inr (inl memory))) = absurd cc
init_failed a b old new (inr (inr (inr failed))) = failed.1

-- ---- what it comes to

module _ (laws : StoreLaws) (either : TakenOrRefused) (contents : ContentsData) (schema : SchemaData) (takes : TakesSchema is_luhn contents.text schema) (dir : List ℕ) (stream stream_new : Stream)
    (before after : ShelfState) (old new : ℕ) (home : IsTrue before.tells → IsHome before) (outcome : Outcome) where
  abbrev Told : Type 0
  Told = IsToldOfPut contents dir stream stream_new before after old new outcome

  of_unknown : LooksThere dir before after old new → IsShelfFault old new outcome → stream_new ≡ stream → Told
  of_unknown looks fault same = record {
    added = [];
    comes = inr fault;
    failed = take_failed old new outcome (inr fault);
    run = λ tells there. subst (λ (b : Bool). StoreRun is_luhn before after dir [] b) (sym (done_of_fault old new outcome fault)) (looked_only dir before after old new looks tells);
    any_moment = λ tells. untouched_since (part_in before dir Schema) (part_in after dir Schema) (next_bytes stream ++ contents.text) (looks.untouched tells);
    draws = inl same;
    undrawn = λ tells there. same;
    others = looked_others dir before after old new looks;
    home = λ tells. home_looked dir before after old new home looks (mid_tells dir before after old new looks tells);
  }

  module _ (mid : ShelfState) (counted : ℕ) (looks : LooksThere dir before mid old counted) where
    abbrev mid_told : IsTrue before.tells → IsTrue mid.tells
    mid_told tells = mid_tells dir before mid old counted looks tells

    module _ (is_there : IsThere dir before) (take : TakesInto contents [] dir mid after counted new outcome) where
      by_take : (IsNoStore (reading (part_in before dir Schema)) → ⊥) → TakeAnswer contents [] (readings before dir) take.added outcome → PutAnswer contents stream (readings before dir) (readings after dir) take.added outcome
      by_take has (store_refused refusal (no_store none is) nil e) = absurd (has none)
      by_take has (store_refused refusal (bad damaged is) nil e) = bad_store damaged nil (e ∙ ap Err is)
      by_take has (answered store is answer) = into_store store is answer

      comes_taken : (IsTrue mid.tells → TakeAnswer contents [] (readings mid dir) take.added outcome) ⊎ IsShelfFault counted new outcome
          → (IsTrue before.tells → PutAnswer contents stream (readings before dir) (readings after dir) take.added outcome) ⊎ IsShelfFault old new outcome
      comes_taken (inl answer) = inl (λ tells. by_take (is_there tells)
          (subst (λ (r : Readings). TakeAnswer contents [] r take.added outcome) (readings_same dir before mid old counted looks tells) (answer (mid_told tells))))
      comes_taken (inr fault) = inr (later_fault old counted new outcome looks.later fault)

      of_taken : stream_new ≡ stream → Told
      of_taken same = record {
        added = take.added;
        comes = comes_taken take.comes;
        failed = λ is. rose_later old counted new looks.later (take_failed counted new outcome take.ends is);
        run = λ tells there. looked_run dir before mid old counted looks tells after take.added (is_done outcome) (take.run (mid_told tells));
        any_moment = λ tells. untouched_then (part_in before dir Schema) (part_in mid dir Schema) (part_in after dir Schema) (next_bytes stream ++ contents.text) (looks.untouched tells)
            (untouched_since (part_in mid dir Schema) (part_in after dir Schema) (next_bytes stream ++ contents.text) (take.run (mid_told tells)).schema);
        draws = inl same;
        undrawn = λ tells there. same;
        others = λ tells. keeps_through (Schema ∷ Updates ∷ []) dir before mid after (looked_others dir before mid old counted looks tells) (take.others (mid_told tells));
        home = λ tells. take.home (mid_told tells);
      }

    none_mid : IsNotThere dir before → IsTrue before.tells → IsNoStore (reading (part_in mid dir Schema))
    none_mid not_there tells = none_still (part_in before dir Schema) (part_in mid dir Schema) (looks.untouched tells) (not_there tells)

    module _ (refusal : Refusal) (not_there : IsNotThere dir before) (empty : MakesEmpty contents.text dir stream stream_new mid after counted new (Err refusal)) (is : outcome ≡ Err refusal) where
      comes_not_made : (IsTrue mid.tells → InitAnswer (Some contents.text) (Some []) stream (readings mid dir) (readings after dir) (Err refusal))
          ⊎ IsAnyFault 0 0 counted new (Err refusal)
          → (IsTrue before.tells → PutAnswer contents stream (readings before dir) (readings after dir) [] outcome) ⊎ IsShelfFault old new outcome
      comes_not_made (inl answer) = inl (λ tells. absurd (never_refused either contents.text schema takes (Some []) stream (readings mid dir) (readings after dir) refusal (none_mid not_there tells) (answer (mid_told tells))))
      comes_not_made (inr fault) = inr (subst (λ (o : Outcome). IsShelfFault old new o) (sym is) (later_fault old counted new (Err refusal) looks.later (never_read counted new refusal fault)))

      of_not_made : Told
      of_not_made = record {
        added = [];
        comes = comes_not_made empty.inits.comes;
        failed = λ e. rose_later old counted new looks.later (init_failed 0 0 counted new
            (subst (λ (o : Outcome). IsInitEnd o ⊎ IsAnyFault 0 0 counted new o) (sym is ∙ e) empty.inits.ends));
        run = λ tells there. absurd (there (not_there tells));
        any_moment = λ tells.
            let m = empty.inits.any_moment (mid_told tells) in
            untouched_then (part_in before dir Schema) (part_in mid dir Schema) (part_in after dir Schema) (next_bytes stream ++ contents.text) (looks.untouched tells)
            (subst (λ (t : List ℕ). LeavesOldOrNew (next_bytes stream ++ t) (part_in mid dir Schema) (part_in after dir Schema)) m.1 m.2);
        draws = empty.inits.draws;
        undrawn = λ tells there. absurd (there (not_there tells));
        others = λ tells. keeps_through (Schema ∷ Updates ∷ []) dir before mid after (looked_others dir before mid old counted looks tells) (empty.inits.others (mid_told tells));
        home = λ tells. empty.inits.home (mid_told tells);
      }

    module _ (between : ShelfState) (made_counted : ℕ) (lines : Vec ℕ Global) (not_there : IsNotThere dir before)
        (empty : MakesEmpty contents.text dir stream stream_new mid between counted made_counted (Ok lines)) (take : TakesInto contents lines.items dir between after made_counted new outcome) where
      between_told : IsTrue before.tells → IsTrue between.tells
      between_told tells = told mid.tells between.tells empty.tells (mid_told tells)

      is_made : IsTrue before.tells → IsMade contents.text stream (readings mid dir) (readings between dir) lines
      is_made tells = by empty.inits.comes
        where
          by : (IsTrue mid.tells → InitAnswer (Some contents.text) (Some []) stream (readings mid dir) (readings between dir) (Ok lines))
              ⊎ IsAnyFault 0 0 counted made_counted (Ok lines)
              → IsMade contents.text stream (readings mid dir) (readings between dir) lines
          by (inl answer) = made_of contents.text (Some []) stream (readings mid dir) (readings between dir) lines (answer (mid_told tells))
          by (inr fault) = absurd (no_fault_done 0 0 counted made_counted lines fault)

      by_new : (tells : IsTrue before.tells) → TakeAnswer contents lines.items (readings between dir) take.added outcome → PutAnswer contents stream (readings before dir) (readings after dir) take.added outcome
      by_new tells (store_refused refusal refuses nil e) =
          let m = is_made tells in absurd (read_or_refused laws (readings between dir) (made_store stream m.schema) refusal m.has refuses)
      by_new tells (answered store is answer) =
          let m = is_made tells in
          let same : store ≡ made_store stream m.schema = laws.one_store is_luhn (readings between dir).schema (readings between dir).updates store (made_store stream m.schema) is m.has in
          into_new m.schema (not_there tells) m.takes
          (subst (λ (s : StoreData). StoreAnswer contents (database_text m.schema.rule.database) s take.added outcome) same
          (subst (λ (l : List ℕ). StoreAnswer contents l store take.added outcome) m.prints answer))
          (λ done. (take.run (between_told tells)).reads done (made_store stream m.schema) m.has)

      comes_made : (IsTrue between.tells → TakeAnswer contents lines.items (readings between dir) take.added outcome) ⊎ IsShelfFault made_counted new outcome
          → (IsTrue before.tells → PutAnswer contents stream (readings before dir) (readings after dir) take.added outcome) ⊎ IsShelfFault old new outcome
      comes_made (inl answer) = inl (λ tells. by_new tells (answer (between_told tells)))
      comes_made (inr fault) = inr (later_fault old made_counted new outcome (omega (arith, looks.later, empty.later)) fault)

      whole : IsTrue before.tells → gated_of (seen_in (part_in between dir Schema)) ≡ Whole (next_bytes stream ++ contents.text)
      whole tells =
          let m = is_made tells in
          whole_in (part_in between dir Schema) (reading (part_in between dir Updates)) (made_store stream m.schema) m.has
          ∙ ap (λ (t : List ℕ). Whole (next_bytes stream ++ t)) (ap (λ (s : SchemaData). s.text) m.takes.declares.1.3)

      of_made : Told
      of_made = record {
        added = take.added;
        comes = comes_made take.comes;
        failed = λ is. rose_later old made_counted new (omega (arith, looks.later, empty.later)) (take_failed made_counted new outcome take.ends is);
        run = λ tells there. absurd (there (not_there tells));
        any_moment = λ tells.
            let m = empty.inits.any_moment (mid_told tells) in
            untouched_then (part_in before dir Schema) (part_in mid dir Schema) (part_in after dir Schema) (next_bytes stream ++ contents.text) (looks.untouched tells)
            (gated_then (part_in mid dir Schema) (part_in between dir Schema) (part_in after dir Schema) (next_bytes stream ++ contents.text)
            (subst (λ (t : List ℕ). LeavesOldOrNew (next_bytes stream ++ t) (part_in mid dir Schema) (part_in between dir Schema)) m.1 m.2) (take.run (between_told tells)).schema (whole tells));
        draws = inr empty.inits.draws;
        undrawn = λ tells there. absurd (there (not_there tells));
        others = λ tells. keeps_through (Schema ∷ Updates ∷ []) dir before mid after (looked_others dir before mid old counted looks tells)
            (keeps_through (Schema ∷ Updates ∷ []) dir mid between after (empty.inits.others (mid_told tells)) (take.others (between_told tells)));
        home = λ tells. take.home (between_told tells);
      }

  pub told_of_put : PutsIn contents dir stream stream_new before after old new outcome → Told
  told_of_put (unknown looks fault same) = of_unknown looks fault same
  told_of_put (taken mid counted looks is_there take same) = of_taken mid counted looks is_there take same
  told_of_put (not_made mid counted refusal looks not_there empty is) = of_not_made mid counted looks refusal not_there empty is
  told_of_put (made mid between counted made_counted lines looks not_there empty take) = of_made mid counted looks between made_counted lines not_there empty take
