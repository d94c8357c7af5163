-- Over a run: for each leaf of its key a replica knows whether it is used, and for no other.
use Rattle.std.proofs.Common.{◌≡◌, inl, inr, ℕ, ◌+◌, ◌<◌, ◌^◌, Bool, true, false, List, ◌++◌, length, map, set, Some, Result, Ok, Err, refl, sym, ap, subst, ◌∙◌, arith, length-set}
use Rattle.std.specs.Prelude.{not, ◌==◌, slice_get}
use Rattle.std.proofs.lemmas.List.{length-map, length-replicate}
use Rattle.std.proofs.lemmas.List.Quantifiers.{position-Some}
use Rattle.key_index.specs.KeyState.{KeyState}
use Rattle.key_index.specs.Used.{least_unused}
use Rattle.lms_tree.specs.LmsKind.{leaf_count}
use Rattle.lms_tree.specs.SecretKey.{SecretData}
use Rattle.lms_tree.specs.declared.lms_type.LmsType.{LmsType}
use Rattle.lms_tree.specs.declared.lms_type.LmsType.TheVariants.{H5, H10, H15}
use Rattle.replica.specs.Signing.{KeyAfter, SignsAtLeast, TriesLeast}
use Rattle.replica.specs.declared.make_fault.MakeFault.{MakeFault}
use Rattle.replica.specs.declared.make_fault.MakeFault.TheVariants.{NotListed, TooManyHeads, Invalid, TooLong, Full, Spent, Taken, DiskFault, Memory}
use Rattle.replica.specs.declared.make_fault.Side.TheVariants.{Key, Log}
use Rattle.schema.specs.Data.{Meaning, SchemaData}
use Rattle.update_model.specs.declared.update_id.UpdateId.{UpdateId}
use Rattle.world_rules.specs.declared.event.Event.{Event}
use Rattle.world_rules.specs.declared.event.Event.TheVariants.{Make, Start, Carry, Cut, Feed, Stop, Restart}
use Rattle.world_rules.specs.declared.event.Stepped.{Stepped}
use Rattle.world_rules.specs.Happens.{HappensTo, IsNew, Restarts, ending, has_failed, is_store, met_by}
use Rattle.world_rules.specs.Meetings.{seen_from}
use Rattle.world_rules.specs.Worlds.{SiteData, WorldData, cut_with, held_by, site_at}
use Rattle.world_rules.proofs.Places.{set_cases}

-- a place for each leaf
abbrev pub IsLong : KeyState → Type 0
IsLong key = length key.taken ≡ leaf_count key.secret.lms

abbrev pub AreLong : WorldData → Type 0
AreLong w = (r : ℕ) (site : SiteData) → site_at w r ≡ Some site → IsLong site.key

-- ---- the number of a leaf is a word

leaf_fits : (lms : LmsType) (q : ℕ) → q < leaf_count lms → q < 2 ^ 32
leaf_fits H5 q below = omega arith
leaf_fits H10 q below = omega arith
leaf_fits H15 q below = omega arith

pub least_fits : (key : KeyState) (index : ℕ) → IsLong key → least_unused key.taken ≡ Some index → index < 2 ^ 32
least_fits key index long least =
    leaf_fits key.secret.lms index (subst (λ (n : ℕ). index < n) long (position-Some not key.taken index true least).0)

-- ---- a key after a Make

tried_long : (old new : KeyState) (index : ℕ) → new.taken ≡ set old.taken index true → new.secret ≡ old.secret → IsLong old → IsLong new
tried_long old new index taken secret long =
    ap length taken ∙ length-set old.taken index true ∙ long ∙ ap (λ (s : SecretData). leaf_count s.lms) (sym secret)

signs_long : (old new : KeyState) → SignsAtLeast old new → IsLong old → IsLong new
signs_long old new k long = tried_long old new k.index k.tries.taken k.tries.secret long

tries_long : (old new : KeyState) → TriesLeast old new → IsLong old → IsLong new
tries_long old new k long = tried_long old new k.index k.tries.taken k.tries.secret long

same_long : (old new : KeyState) → new ≡ old → IsLong old → IsLong new
same_long old new same long = subst IsLong (sym same) long

long_after : (result : Result UpdateId MakeFault) (old new : KeyState) → KeyAfter old result new → IsLong old → IsLong new
long_after (Ok id) old new k long = signs_long old new k long
long_after (Err NotListed) old new k long = same_long old new k long
long_after (Err (TooManyHeads n)) old new k long = same_long old new k long
long_after (Err (Invalid reason operation)) old new k long = same_long old new k long
long_after (Err (TooLong len)) old new k long = same_long old new k long
long_after (Err Full) old new k long = same_long old new k long
long_after (Err Spent) old new k long = same_long old new k long
long_after (Err (Taken id)) old new k long = signs_long old new k long
long_after (Err (DiskFault Key)) old new k long = tries_long old new k long
long_after (Err (DiskFault Log)) old new k long = signs_long old new k long
long_after (Err Memory) old new (inl same) long = same_long old new same long
long_after (Err Memory) old new (inr signs) long = signs_long old new signs long

-- a key that was opened
restart_long : (ask : Meaning) (choice : ℕ) (old new : SiteData) → Restarts ask choice old new → IsLong new.key
restart_long ask choice old new r =
    ap length (r.opens_key.taken refl) ∙ length-map r.used (λ (byte : ℕ). not (byte == 0)) ∙ r.opens_key.size refl

-- ---- every event

-- no replica changes
long_none : (w w' : WorldData) → w'.sites ≡ w.sites → AreLong w → AreLong w'
long_none w w' same long r site there = long r site (ap (λ (xs : List SiteData). slice_get xs r) (sym same) ∙ there)

-- one does
long_one : (w w' : WorldData) (r : ℕ) (new : SiteData) → w'.sites ≡ set w.sites r new → AreLong w → IsLong new.key → AreLong w'
long_one w w' r new same long new_long j site there = elim (set_cases w.sites r j new site (ap (λ (xs : List SiteData). slice_get xs j) (sym same) ∙ there)) [
  | inl here ↦ subst (λ (x : SiteData). IsLong x.key) (sym here.1) new_long
  | inr before ↦ long j site before.1
]

-- one does, and may be down
long_ending : (w mid : WorldData) (failed : Bool) (r : ℕ) (new : SiteData) → mid.sites ≡ w.sites → AreLong w → IsLong new.key → AreLong (ending failed r new mid)
long_ending w mid true r new same long new_long =
    long_one w (ending true r new mid) r (record new { is_down = true }) (ap (λ (xs : List SiteData). set xs r (record new { is_down = true })) same) long new_long
long_ending w mid false r new same long new_long = long_one w (ending false r new mid) r new (ap (λ (xs : List SiteData). set xs r new) same) long new_long

pub event_long : (ask : Meaning) (w w' : WorldData) (found : Bool) (event : Event) (answer : Stepped) → AreLong w → HappensTo found ask w event answer w' → AreLong w'
event_long ask w w' false event answer long h = subst AreLong (sym h.1) long
event_long ask w w' true (Make r ops) answer long h =
    subst AreLong (sym h.is) (long_ending w (record w { signed = w.signed ++ h.signs }) (has_failed h.result) r (record h.site { store = h.store; key = h.key }) refl long
    (long_after h.result h.site.key h.key h.makes.key_after (long r h.site h.there)))
event_long ask w w' true (Start s first second) answer long h = long_none w w' (ap (λ (x : WorldData). x.sites) h.is) long
event_long ask w w' true (Carry s forward) answer long h =
    subst AreLong (sym h.is) (long_ending w _ (is_store h.next.ended) (seen_from forward h.ends).first (record h.site { store = h.store; remembered = h.remembered }) refl long
    (long (seen_from forward h.ends).first h.site h.reads))
event_long ask w w' true (Cut s) answer long h = long_none w w' (ap (λ (x : WorldData). x.sites) h.is) long
event_long ask w w' true (Feed s bytes) answer long h =
    subst AreLong (sym h.is) (long_ending w _ (is_store h.next.ended) h.one.first (record h.site { store = h.store }) refl long (long h.one.first h.site h.reads))
event_long ask w w' true (Stop r calls) answer long h = long_none w w' (ap (λ (x : WorldData). x.sites) h.is) long
event_long ask w w' true (Restart r choice) answer long h =
    let next = record w { sites = set w.sites r h.new; sessions = map (cut_with r) w.sessions; met = w.met ++ met_by w.event (held_by h.new); event = w.event + 1 } in
    subst AreLong (sym h.is) (long_one w next r h.new refl long (restart_long ask choice h.site h.new h.restarts))

-- ---- the beginning

pub new_long : (ask : Meaning) (schema : SchemaData) (w : WorldData) → IsNew ask schema w → AreLong w
new_long ask schema w n r site there =
    let created = (n.sites r site there).key in
    ap length created.taken ∙ length-replicate (leaf_count (n.sites r site there).secret.lms) false ∙ ap (λ (s : SecretData). leaf_count s.lms) (sym created.made)
