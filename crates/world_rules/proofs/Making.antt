-- Over a run: each update that a replica holds was met, or a Make signed its message.
use Rattle.std.proofs.Common.{◌≡◌, ◌⊎◌, inl, inr, ℕ, ◌+◌, ◌<◌, ◌^◌, Bool, true, false, List, [], ◌∷◌, ◌++◌, length, map, set, take, Contains, Some, Result, Ok, Err, refl, sym, ap, subst, ◌∙◌, append-nil, append_assoc}
use Rattle.std.specs.List.{AllByRecursion}
use Rattle.std.specs.Prelude.{slice_get}
use Rattle.std.specs.Int.{w32, from_be_bytes, to_be_bytes}
use Rattle.std.proofs.Math.Seq.{take-append_seam}
use Rattle.std.proofs.lemmas.Nat.{from_be_bytes-to_be_bytes_4}
use Rattle.update_model.specs.Graph.{AreHeads}
use Rattle.std.proofs.lemmas.List.Elements.{Contains-append_left, Contains-append_right}
use Rattle.lm_ots.specs.OneTime.{signature_of as ots_signature}
use Rattle.lms_tree.specs.LmsKind.{type_word}
use Rattle.lms_tree.specs.SecretKey.{SecretData, path_of, public_key, signature_by}
use Rattle.lms_tree.specs.Signature.{leaf_number}
use Rattle.replica.specs.Making.{AfterAllHeads, IsMadeBy, body_by}
use Rattle.replica.specs.Replicas.{ReplicaState}
use Rattle.replica.specs.declared.make_fault.MakeFault.{MakeFault}
use Rattle.key_index.specs.KeyState.{KeyState}
use Rattle.key_index.specs.Used.{least_unused}
use Rattle.schema.specs.Data.{Meaning, SchemaData}
use Rattle.session_rules.specs.State.{FrameData, SessionData, OutData}
use Rattle.session_rules.proofs.Growth.{steps_grow}
use Rattle.session_rules.proofs.Words.{each_append, each_member, each_weaker, first_member}
use Rattle.update_check.specs.Members.{AreMembers}
use Rattle.update_codec.specs.Parts.{body_of, entry_of, signature_of}
use Rattle.update_codec.specs.Spelling.{message}
use Rattle.update_codec.proofs.Places.{update_stands}
use Rattle.update_model.specs.declared.op.Op.{Op}
use Rattle.update_model.specs.declared.update_id.UpdateId.{UpdateId}
use Rattle.update_model.specs.Batch.{store_limits}
use Rattle.update_model.specs.Entry.{Entry}
use Rattle.update_model.specs.Form.{UpdateData}
use Rattle.update_model.specs.Rule.{RuleData}
use Rattle.update_model.proofs.Heads.{heads_same}
use Rattle.world_rules.specs.declared.event.Event.{Event}
use Rattle.world_rules.specs.declared.event.Event.TheVariants.{Make, Start, Carry, Cut, Feed, Stop, Restart}
use Rattle.world_rules.specs.declared.event.Stepped.{Stepped}
use Rattle.world_rules.specs.Happens.{MakesBy, Signs, ending, has_failed, is_store, met_by, met_in, all_met, MakesIn, TakesOne, TakesAll, none, one_more, CarriesIn, FeedsIn, RestartsIn, HappensTo}
use Rattle.world_rules.specs.Meetings.{TwoEnds, seen_from}
use Rattle.world_rules.specs.Worlds.{SiteData, Both, Liar, SignedData, MetData, WorldData, site_at, held_by, cut_with}
use Rattle.world_rules.proofs.Courses.{IsMetEntry, IsEndKnown, end_known_still}
use Rattle.world_rules.proofs.Extending.{IsEntryOf}
use Rattle.world_rules.proofs.Hearing.{heard_under}
use Rattle.world_rules.proofs.Leaves.{AreLong, IsLong, least_fits}
use Rattle.world_rules.proofs.Passing.{Brings}
use Rattle.world_rules.proofs.Places.{set_cases}
use Rattle.world_rules.proofs.Moving.{WasMet, met_still, IsBothSound, IsSound}
use Rattle.world_rules.proofs.Events.{BringsAll, met_frames, takes_all}

-- a Make of this replica signed its message, under the index that its signature names
abbrev pub WasMade : List SignedData → ℕ → List ℕ → Type 0
WasMade signed r u = (s : SignedData) × Contains signed s × (s.replica ≡ r) × (s.body ≡ body_of u) × (s.index ≡ leaf_number (signature_of u))

-- it was met, or a Make of this replica signed its message
abbrev pub IsKnown : WorldData → ℕ → List ℕ → Type 0
IsKnown w r u = WasMet w.met u ⊎ WasMade w.signed r u

-- what a replica holds was met, or made by itself
abbrev pub AreKnown : WorldData → Type 0
AreKnown w = (r : ℕ) (site : SiteData) → site_at w r ≡ Some site → AllByRecursion (IsKnown w r) (held_by site)

-- what was known stays known
pub record Longer (w w' : WorldData) : Type 0 where
  pub met : List MetData
  pub met_is : w'.met ≡ w.met ++ met
  pub signed : List SignedData
  pub signed_is : w'.signed ≡ w.signed ++ signed

known_still : (w w' : WorldData) (r : ℕ) (u : List ℕ) → Longer w w' → IsKnown w r u → IsKnown w' r u
known_still w w' r u l (inl m) = inl (subst (λ (met : List MetData). WasMet met u) (sym l.met_is) (met_still w.met l.met u m))
known_still w w' r u l (inr s) = inr (s.0, subst (λ (signed : List SignedData). Contains signed s.0) (sym l.signed_is) (Contains-append_left w.signed l.signed s.0 s.1), s.2, s.3, s.4)

all_still : (w w' : WorldData) (r : ℕ) (us : List (List ℕ)) → Longer w w' → AllByRecursion (IsKnown w r) us → AllByRecursion (IsKnown w' r) us
all_still w w' r us l all = each_weaker (IsKnown w r) (IsKnown w' r) (λ u k. known_still w w' r u l k) us all

-- no list changes
pub known_none : (w w' : WorldData) → Longer w w' → w'.sites ≡ w.sites → AreKnown w → AreKnown w'
known_none w w' l same k r site there = all_still w w' r (held_by site) l (k r site (ap (λ (xs : List SiteData). slice_get xs r) (sym same) ∙ there))

-- one does
pub known_one : (w w' : WorldData) (r : ℕ) (new : SiteData) → Longer w w' → w'.sites ≡ set w.sites r new → AreKnown w → AllByRecursion (IsKnown w' r) (held_by new) → AreKnown w'
known_one w w' r new l same k all j site there = elim (set_cases w.sites r j new site (ap (λ (xs : List SiteData). slice_get xs j) (sym same) ∙ there)) [
  | inl here ↦ subst (λ (n : ℕ). AllByRecursion (IsKnown w' n) (held_by site)) (sym here.0) (subst (λ (x : SiteData). AllByRecursion (IsKnown w' r) (held_by x)) (sym here.1) all)
  | inr before ↦ all_still w w' j (held_by site) l (k j site before.1)
]

-- one does, and may be down
pub known_ending : (w mid : WorldData) (failed : Bool) (r : ℕ) (new : SiteData) → Longer w mid → mid.sites ≡ w.sites → AreKnown w → AllByRecursion (IsKnown mid r) (held_by new) → AreKnown (ending failed r new mid)
known_ending w mid true r new l same k all =
    known_one w (ending true r new mid) r (record new { is_down = true }) (record { met = l.met; met_is = l.met_is; signed = l.signed; signed_is = l.signed_is }) (ap (λ (xs : List SiteData). set xs r (record new { is_down = true })) same) k all
known_ending w mid false r new l same k all =
    known_one w (ending false r new mid) r new (record { met = l.met; met_is = l.met_is; signed = l.signed; signed_is = l.signed_is }) (ap (λ (xs : List SiteData). set xs r new) same) k all

-- ---- a session adds what was met

bytes_all : (P : List ℕ → Type 0) (us : List (List ℕ)) → AllByRecursion (λ (e : Entry). P e.bytes) (map entry_of us) → AllByRecursion P us
bytes_all P [] all = tt
bytes_all P (u ∷ us) all = (all.0, bytes_all P us all.1)

entries_all : (P : List ℕ → Type 0) (us : List (List ℕ)) → AllByRecursion P us → AllByRecursion (λ (e : Entry). P e.bytes) (map entry_of us)
entries_all P [] all = tt
entries_all P (u ∷ us) all = (all.0, entries_all P us all.1)

pub adds_met : (rule : RuleData) (Met P : List ℕ → Type 0) (old new : ReplicaState) (s next : SessionData) (frame : FrameData) (out : OutData) → ((u : List ℕ) → Met u → P u) → IsEndKnown rule Met s
    → TakesOne old s frame next out new → AllByRecursion P old.history.members → AllByRecursion P new.history.members
adds_met rule Met P old new s next frame out weaker known t all =
    let grown = steps_grow store_limits s (map entry_of old.history.members) next out (map entry_of new.history.members) frame t.step in
    let Q : Entry → Type 0 = λ e. P e.bytes in
    let had = each_append Q s.waiting s.gathered (each_weaker (IsMetEntry rule Met) Q (λ e h. weaker e.bytes h.1) s.waiting known.waiting) (each_weaker (IsMetEntry rule Met) Q (λ e h. weaker e.bytes h.1) s.gathered known.gathered) in
    let added = each_weaker (Contains (s.waiting ++ s.gathered)) Q (λ e c. each_member Q (s.waiting ++ s.gathered) e had c) grown.new grown.from in
    bytes_all P new.history.members (subst (AllByRecursion Q) (sym grown.is) (each_append Q (map entry_of old.history.members) grown.new (entries_all P old.history.members all) added))

each_front : (P : FrameData → Type 0) (xs ys : List FrameData) → AllByRecursion P (xs ++ ys) → AllByRecursion P xs × AllByRecursion P ys
each_front P [] ys all = (tt, all)
each_front P (x ∷ xs) ys all = let rest = each_front P xs ys all.1 in ((all.0, rest.0), rest.1)

pub all_add_met : (rule : RuleData) (Met P : List ℕ → Type 0) (old : ReplicaState) (s : SessionData) (new : ReplicaState) (next : SessionData) (frames : List FrameData) → ((u : List ℕ) → Met u → P u) → IsEndKnown rule Met s
    → AreMembers rule old.history.members → BringsAll rule Met frames → TakesAll old s frames next new → AllByRecursion P old.history.members → AllByRecursion P new.history.members
all_add_met rule Met P old s new next [] weaker known are brings (none _ _ same stays) all = subst (λ (x : ReplicaState). AllByRecursion P x.history.members) (sym stays) all
all_add_met rule Met P old s new next _ weaker known are brings (one_more frames frame mid _ between _ out before t) all =
    let parts = each_front (Brings (IsMetEntry rule Met)) frames (frame ∷ []) brings in
    let took = takes_all rule Met old s between mid frames known are parts.0 before in
    adds_met rule Met P between new mid next frame out weaker took.known t (all_add_met rule Met P old s between mid frames weaker known are parts.0 before all)

-- ---- a Make adds what it signed

same_preds : (members : List (List ℕ)) (preds others : List UpdateId) → AreHeads (map entry_of members) preds → AreHeads (map entry_of members) others → preds ≡ others
same_preds members preds others a b = heads_same (map entry_of members) (map entry_of members) preds others (λ e. (λ c. c, λ c. c)) a b

-- the body that the bytes of a made update have is the one that was signed
made_body : (old : ReplicaState) (key : KeyState) (ops : List Op) (c : List ℕ) (bytes : List ℕ) (preds others : List UpdateId) → AfterAllHeads old.history preds → AfterAllHeads old.history others
    → IsMadeBy old.history key.secret key.taken preds ops c bytes → body_of bytes ≡ body_by old.history (public_key key.secret) others ops
made_body old key ops c bytes preds others a b made =
    ap (λ (u : UpdateData). u.body) (update_stands bytes _ made.spells) ∙ ap (λ (ps : List UpdateId). body_by old.history (public_key key.secret) ps ops) (same_preds old.history.members preds others a b)

-- the first four bytes of a signature by an index say it
front_of : (a b c d : List ℕ) → length a ≡ 4 → take 4 (a ++ b ++ c ++ d) ≡ a
front_of a b c d long =
    ap (take 4) (append_assoc (a ++ b) c d ∙ append_assoc a b (c ++ d)) ∙ ap (λ (k : ℕ). take k (a ++ (b ++ (c ++ d)))) (sym long) ∙ take-append_seam a (b ++ (c ++ d))

leaf_of : (secret : SecretData) (q : ℕ) (c msg : List ℕ) → q < 2 ^ 32 → leaf_number (signature_by secret q c msg) ≡ q
leaf_of secret q c msg small =
    ap (from_be_bytes w32) (front_of (to_be_bytes w32 q) (ots_signature secret.ots secret.ident q secret.start c msg) (to_be_bytes w32 (type_word secret.lms)) (path_of secret q) refl)
    ∙ from_be_bytes-to_be_bytes_4 q small

-- the index at which it was signed is the one that the signature of a made update names
made_index : (old : ReplicaState) (key : KeyState) (ops : List Op) (c : List ℕ) (bytes : List ℕ) (preds : List UpdateId) (index : ℕ) → IsLong key → least_unused key.taken ≡ Some index
    → IsMadeBy old.history key.secret key.taken preds ops c bytes → index ≡ leaf_number (signature_of bytes)
made_index old key ops c bytes preds index long least made =
    let both : Some index ≡ Some made.index = sym least ∙ made.least in
    let same : index ≡ made.index = cc in
    let body = body_by old.history (public_key key.secret) preds ops in
    let signature : signature_of bytes ≡ signature_by key.secret made.index c (message body) = ap (λ (u : UpdateData). u.signature) (update_stands bytes _ made.spells) in
    same ∙ sym (ap leaf_number signature ∙ leaf_of key.secret made.index c (message body) (least_fits key made.index long made.least))

makes_known : (ask : Meaning) (w mid : WorldData) (r : ℕ) (old new : ReplicaState) (key key' : KeyState) (ops : List Op) (c : List ℕ) (result : Result UpdateId MakeFault) (signs : List SignedData) → Longer w mid
    → IsLong key → mid.signed ≡ w.signed ++ signs → AllByRecursion (IsKnown w r) old.history.members → MakesBy ask old key ops c result new key' → Signs result r w.event old key ops signs
    → AllByRecursion (IsKnown mid r) new.history.members
makes_known ask w mid r old new key key' ops c (Ok id) signs l long list all m s =
    let made = m.made id refl in
    let y : SignedData = record { replica = r; index = s.index; body = body_by old.history (public_key key.secret) s.preds ops; event = w.event; held = length old.history.members } in
    let there : Contains mid.signed y = subst (λ (xs : List SignedData). Contains xs y) (sym (list ∙ ap (λ (xs : List SignedData). w.signed ++ xs) s.is)) (Contains-append_right w.signed (y ∷ []) y (first_member y [])) in
    let body = made_body old key ops c made.bytes made.preds s.preds made.after s.after made.made in
    let index = made_index old key ops c made.bytes made.preds s.index long s.least made.made in
    let known : IsKnown mid r made.bytes = inr (y, there, refl, sym body, index) in
    subst (AllByRecursion (IsKnown mid r)) (sym (ap (λ (h : _). h.members) made.last))
    (each_append (IsKnown mid r) old.history.members (made.bytes ∷ []) (all_still w mid r old.history.members l all) (known, tt))
makes_known ask w mid r old new key key' ops c (Err why) signs l long list all m s =
    subst (AllByRecursion (IsKnown mid r)) (sym (ap (λ (h : _). h.members) (m.refused why refl).1)) (all_still w mid r old.history.members l all)

-- ---- every event

nothing_more : (w w' : WorldData) → w'.met ≡ w.met → w'.signed ≡ w.signed → Longer w w'
nothing_more w w' a b = record { met = []; met_is = a ∙ sym (append-nil w.met); signed = []; signed_is = b ∙ sym (append-nil w.signed) }

make_known : (ask : Meaning) (w w' : WorldData) (r : ℕ) (ops : List Op) (answer : Stepped) → AreLong w → AreKnown w → MakesIn ask w r ops answer w' → AreKnown w'
make_known ask w w' r ops answer long k m =
    let mid = record w { signed = w.signed ++ m.signs } in
    let l : Longer w mid = record { met = []; met_is = sym (append-nil w.met); signed = m.signs; signed_is = refl } in
    let new = record m.site { store = m.store; key = m.key } in
    subst AreKnown (sym m.is) (known_ending w mid (has_failed m.result) r new l refl k
    (makes_known ask w mid r m.site.store m.store m.site.key m.key ops m.c m.result m.signs l (long r m.site m.there) refl (k r m.site m.there) m.makes m.signed))

carry_known : (schema : SchemaData) (w w' : WorldData) (s : ℕ) (forward : Bool) (answer : Stepped) → IsSound schema w → AreKnown w → CarriesIn w s forward answer w' → AreKnown w'
carry_known schema w w' s forward answer sound k m =
    subst AreKnown (sym m.is) (known_ending w _ (is_store m.next.ended) (seen_from forward m.ends).first (record m.site { store = m.store; remembered = m.remembered })
    (record { met = met_in w.event m.frame; met_is = refl; signed = []; signed_is = sym (append-nil w.signed) }) refl k
    (adds_met schema.rule (WasMet w.met) _ m.site.store m.store (seen_from forward m.ends).a.state m.next m.frame m.out (λ u h. inl (met_still w.met (met_in w.event m.frame) u h)) (known forward m.ends (sound.sessions s (Both m.ends) m.there)) m.takes
    (each_weaker (IsKnown w (seen_from forward m.ends).first) _ (λ u h. still u h) (held_by m.site) (k (seen_from forward m.ends).first m.site m.reads))))
  where
    known : (f : Bool) (ends : TwoEnds) → IsBothSound schema w ends → IsEndKnown schema.rule (WasMet w.met) (seen_from f ends).a.state
    known true ends both = both.course.known_b
    known false ends both = both.course.known_a

    still : (u : List ℕ) → IsKnown w (seen_from forward m.ends).first u → WasMet (w.met ++ met_in w.event m.frame) u ⊎ WasMade w.signed (seen_from forward m.ends).first u
    still u (inl h) = inl (met_still w.met (met_in w.event m.frame) u h)
    still u (inr h) = inr h

feed_known : (schema : SchemaData) (w w' : WorldData) (s : ℕ) (bytes : List ℕ) (answer : Stepped) → IsSound schema w → AreKnown w → FeedsIn w s bytes answer w' → AreKnown w'
feed_known schema w w' s bytes answer sound k m =
    let site = sound.sites m.one.first m.site m.reads in
    let known = end_known_still schema.rule (WasMet w.met) (WasMet (w.met ++ all_met w.event m.heard)) m.one.end.state (λ u h. met_still w.met (all_met w.event m.heard) u h) (sound.sessions s (Liar m.one) m.there) in
    let brings = met_frames schema.rule w.met w.event m.heard (subst (λ (x : SchemaData). AllByRecursion (Brings (IsEntryOf x.rule)) m.heard) site.schema_is (heard_under m.site.store.history.schema.rule m.one.fed m.fed bytes m.heard m.hears)) in
    subst AreKnown (sym m.is) (known_ending w _ (is_store m.next.ended) m.one.first (record m.site { store = m.store })
    (record { met = all_met w.event m.heard; met_is = refl; signed = []; signed_is = sym (append-nil w.signed) }) refl k
    (all_add_met schema.rule (WasMet (w.met ++ all_met w.event m.heard)) _ m.site.store m.one.end.state m.store m.next m.heard (λ u h. inl h) known site.members brings m.takes
    (each_weaker (IsKnown w m.one.first) _ (λ u h. still u h) (held_by m.site) (k m.one.first m.site m.reads))))
  where
    still : (u : List ℕ) → IsKnown w m.one.first u → WasMet (w.met ++ all_met w.event m.heard) u ⊎ WasMade w.signed m.one.first u
    still u (inl h) = inl (met_still w.met (all_met w.event m.heard) u h)
    still u (inr h) = inr h

met_by_all : (event : ℕ) (front : List MetData) (us : List (List ℕ)) → AllByRecursion (λ u. WasMet (front ++ met_by event us) u) us
met_by_all event front [] = tt
met_by_all event front (u ∷ us) =
    let y : MetData = record { event = event; update = u } in
    let rest = met_by_all event (front ++ y ∷ []) us in (
      (y, Contains-append_right front (y ∷ met_by event us) y (first_member y (met_by event us)), refl),
      subst (λ (met : List MetData). AllByRecursion (λ v. WasMet met v) us) (append_assoc front (y ∷ []) (met_by event us)) rest,
    )

restart_known : (ask : Meaning) (w w' : WorldData) (r choice : ℕ) (answer : Stepped) → AreKnown w → RestartsIn ask w r choice answer w' → AreKnown w'
restart_known ask w w' r choice answer k m =
    let next = record w { sites = set w.sites r m.new; sessions = map (cut_with r) w.sessions; met = w.met ++ met_by w.event (held_by m.new); event = w.event + 1 } in
    subst AreKnown (sym m.is) (known_one w next r m.new (record { met = met_by w.event (held_by m.new); met_is = refl; signed = []; signed_is = sym (append-nil w.signed) }) refl k
    (each_weaker (λ u. WasMet (w.met ++ met_by w.event (held_by m.new)) u) (IsKnown next r) (λ u h. inl h) (held_by m.new) (met_by_all w.event w.met (held_by m.new))))

pub event_known : (ask : Meaning) (schema : SchemaData) (w w' : WorldData) (found : Bool) (event : Event) (answer : Stepped) → IsSound schema w → AreLong w → AreKnown w → HappensTo found ask w event answer w' → AreKnown w'
event_known ask schema w w' false event answer sound long k h = subst AreKnown (sym h.1) k
event_known ask schema w w' true (Make r ops) answer sound long k h = make_known ask w w' r ops answer long k h
event_known ask schema w w' true (Start s first second) answer sound long k h = known_none w w' (nothing_more w w' (ap (λ (x : WorldData). x.met) h.is) (ap (λ (x : WorldData). x.signed) h.is)) (ap (λ (x : WorldData). x.sites) h.is) k
event_known ask schema w w' true (Carry s forward) answer sound long k h = carry_known schema w w' s forward answer sound k h
event_known ask schema w w' true (Cut s) answer sound long k h = known_none w w' (nothing_more w w' (ap (λ (x : WorldData). x.met) h.is) (ap (λ (x : WorldData). x.signed) h.is)) (ap (λ (x : WorldData). x.sites) h.is) k
event_known ask schema w w' true (Feed s bytes) answer sound long k h = feed_known schema w w' s bytes answer sound k h
event_known ask schema w w' true (Stop r calls) answer sound long k h = known_none w w' (nothing_more w w' (ap (λ (x : WorldData). x.met) h.is) (ap (λ (x : WorldData). x.signed) h.is)) (ap (λ (x : WorldData). x.sites) h.is) k
event_known ask schema w w' true (Restart r choice) answer sound long k h = restart_known ask w w' r choice answer k h
