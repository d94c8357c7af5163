-- Each event leaves a sound world.
use Rattle.std.proofs.Common.{◌≡◌, inl, inr, ℕ, ◌+◌, Bool, true, false, List, [], ◌∷◌, ◌++◌, map, set, Option, Some, None, IsTrue, Result, Ok, Err, refl, sym, ap, subst, ◌∙◌, append-nil, append_assoc}
use Rattle.std.specs.List.{AllByRecursion}
use Rattle.std.specs.Prelude.{slice_get}
use Rattle.std.proofs.lemmas.List.Elements.{Contains-append_right}
use Rattle.bec_disk.proofs.Moments.{told}
use Rattle.confluence_test.specs.Taking.{TakesSchema}
use Rattle.key_index.specs.KeyState.{KeyState}
use Rattle.replica.specs.Holding.{KeepsOn, keeps_itself, keeps_on}
use Rattle.replica.specs.Replicas.{ReplicaState}
use Rattle.replica.specs.Signing.{KeyAfter}
use Rattle.replica.specs.declared.make_fault.MakeFault.{MakeFault}
use Rattle.replica.specs.declared.make_fault.MakeFault.TheVariants.{NotListed, TooManyHeads, Invalid, TooLong, Full, Spent, Taken, DiskFault, Memory}
use Rattle.replica.specs.declared.make_fault.Side.TheVariants.{Key, Log}
use Rattle.schema.specs.Data.{Meaning, SchemaData}
use Rattle.session_rules.specs.Course.{opened}
use Rattle.session_rules.specs.Pair.{begins}
use Rattle.session_rules.specs.State.{HelloData, FrameData, Hello, OtherVersion, Item, BadItem, Turn, NoFrame, SessionData, OutData}
use Rattle.session_rules.specs.Steps.{IsHello}
use Rattle.session_rules.specs.declared.role.Role.TheVariants.{Responder}
use Rattle.session_rules.proofs.Words.{each_append, each_weaker, first_member}
use Rattle.update_check.specs.Members.{AreMembers}
use Rattle.update_model.specs.declared.op.Op.{Op}
use Rattle.update_model.specs.declared.update_id.UpdateId.{UpdateId}
use Rattle.update_model.specs.Rule.{RuleData}
use Rattle.world_rules.specs.declared.event.Event.{Event}
use Rattle.world_rules.specs.declared.event.Event.TheVariants.{Make, Start, Carry, Cut, Feed, Stop, Restart}
use Rattle.world_rules.specs.declared.event.Stepped.{Stepped}
use Rattle.world_rules.specs.Happens.{ending, began, has_failed, recalled, is_broken_off, is_store, met_in, all_met, met_by, MakesIn, StartsIn, Starts, TakesOne, TakesAll, none, one_more, CarriesIn, FeedsIn, CutsIn, StopsIn, RestartsIn, HappensTo}
use Rattle.world_rules.specs.Lists.{Extends}
use Rattle.world_rules.specs.Meetings.{TwoEnds, turned, over_lists}
use Rattle.world_rules.specs.Worlds.{SiteData, SessionOf, Both, Liar, MetData, WorldData, site_at, held_by, cut, cut_if, cut_with}
use Rattle.world_rules.proofs.Courses.{IsMetEntry, IsEndKnown, IsCourse, carried, course_carries_a, course_carries_b, course_cut, course_grows, end_known_still, few_members, step_known}
use Rattle.world_rules.proofs.Extending.{IsEntryOf, entries_are, steps_extend}
use Rattle.world_rules.proofs.Passing.{Brings}
use Rattle.world_rules.proofs.Places.{session_set, session_cut}
use Rattle.world_rules.proofs.Hearing.{heard_under}
use Rattle.world_rules.proofs.Schemas.{SchemaLaws}
use Rattle.world_rules.proofs.Sites.{IsSiteSound, SiteMoves, make_moves, restart_moves, same_extends, store_moves}
use Rattle.world_rules.proofs.Moving.{WasMet, met_still, AreSound, none_moves, one_moves, ending_moves, ending_here, ending_met, ending_sessions, sunk_if, sunk_held, IsBothSound, IsSessionSound, session_on, IsSound, Sounds, sounds}

nothing_met : (met : List MetData) → met ≡ met ++ []
nothing_met met = sym (append-nil met)

-- ---- Make

tells_after : (result : Result UpdateId MakeFault) (old new : KeyState) → KeyAfter old result new → IsTrue old.parts.used.tells → IsTrue new.parts.used.tells
tells_after (Ok id) old new k t = told old.parts.used new.parts.used k.tries.only.disk t
tells_after (Err NotListed) old new k t = subst (λ (x : KeyState). IsTrue x.parts.used.tells) (sym k) t
tells_after (Err (TooManyHeads n)) old new k t = subst (λ (x : KeyState). IsTrue x.parts.used.tells) (sym k) t
tells_after (Err (Invalid reason operation)) old new k t = subst (λ (x : KeyState). IsTrue x.parts.used.tells) (sym k) t
tells_after (Err (TooLong len)) old new k t = subst (λ (x : KeyState). IsTrue x.parts.used.tells) (sym k) t
tells_after (Err Full) old new k t = subst (λ (x : KeyState). IsTrue x.parts.used.tells) (sym k) t
tells_after (Err Spent) old new k t = subst (λ (x : KeyState). IsTrue x.parts.used.tells) (sym k) t
tells_after (Err (Taken id)) old new k t = told old.parts.used new.parts.used k.tries.only.disk t
tells_after (Err (DiskFault Key)) old new k t = told old.parts.used new.parts.used k.tries.only.disk t
tells_after (Err (DiskFault Log)) old new k t = told old.parts.used new.parts.used k.tries.only.disk t
tells_after (Err Memory) old new (inl same) t = subst (λ (x : KeyState). IsTrue x.parts.used.tells) (sym same) t
tells_after (Err Memory) old new (inr signs) t = told old.parts.used new.parts.used signs.tries.only.disk t

-- what a Make does to its replica
pub make_site : (ask : Meaning) (schema : SchemaData) (w w' : WorldData) (r : ℕ) (ops : List Op) (answer : Stepped) → AreSound schema w → (m : MakesIn ask w r ops answer w')
    → SiteMoves schema m.site (record m.site { store = m.store; key = m.key })
make_site ask schema w w' r ops answer sound m =
    let s = sound r m.site m.there in
    make_moves ask schema m.site ops m.c m.result m.store m.key s m.makes (tells_after m.result m.site.key m.key m.makes.key_after s.used_tells)

make_sounds : (ask : Meaning) (schema : SchemaData) (w w' : WorldData) (r : ℕ) (ops : List Op) (answer : Stepped) → IsSound schema w → MakesIn ask w r ops answer w' → Sounds schema w w'
make_sounds ask schema w w' r ops answer sound m =
    let new = record m.site { store = m.store; key = m.key } in
    let mid = record w { signed = w.signed ++ m.signs } in
    let moves = ending_moves schema (has_failed m.result) w mid r m.site new [] sound.sites m.there (make_site ask schema w w' r ops answer sound.sites m) refl (nothing_met w.met) in
    subst (Sounds schema w) (sym m.is) (sounds schema w (ending (has_failed m.result) r new mid) sound moves
    (λ s n is. let was = ending_sessions (has_failed m.result) mid r s new n is in (was.0, was.2, inl was.1)))

-- ---- Start

start_course : (schema : SchemaData) (Met : List ℕ → Type 0) (first second : ℕ) (site other : SiteData) (hello : HelloData) → IsSiteSound schema site → IsSiteSound schema other
    → IsHello (began true site (recalled site second)).state hello
    → IsCourse schema.rule Met (record { first = first; second = second; a = began true site (recalled site second); b = began false other (recalled other first); to_a = []; to_b = Hello hello ∷ [] })
    (held_by site) (held_by other)
start_course schema Met first second site other hello s o is_hello = record {
  opening = over_lists (record { first = first; second = second; a = began true site (recalled site second); b = began false other (recalled other first); to_a = []; to_b = Hello hello ∷ [] }) (held_by site) (held_by other);
  opens = record {
    database = site.store.history.schema.rule.database;
    node_a = site.store.node;
    node_b = other.store.node;
    old_a = recalled site second;
    old_b = recalled other first;
    hello = hello;
    closed_a = s.members.closed;
    closed_b = o.members.closed;
    few_a = few_members schema.rule (held_by site) s.members;
    few_b = few_members schema.rule (held_by other) o.members;
    a = refl;
    b = ap (λ (x : SchemaData). opened Responder x.rule.database other.store.node (recalled other first) []) (o.schema_is ∙ sym s.schema_is);
    is_hello = is_hello;
    to_a = refl;
    to_b = refl;
  };
  run = begins _ refl;
  known_a = record { waiting = tt; gathered = tt; start = entries_are schema.rule (held_by site) s.members };
  known_b = record { waiting = tt; gathered = tt; start = tt };
  way_a = tt;
  way_b = (tt, tt);
}

start_sound : (schema : SchemaData) (w w' : WorldData) (s first : ℕ) (second : Option ℕ) (m : SessionOf) → AreSound schema w → w'.sites ≡ w.sites → Starts w s first second m → IsSessionSound schema w' m
start_sound schema w w' s first None m sound same (site, there, is) =
    subst (IsSessionSound schema w') (sym is) (record { waiting = tt; gathered = tt; start = entries_are schema.rule (held_by site) (sound first site there).members })
start_sound schema w w' s first (Some second) m sound same (site, there, (other, there_too, (hello, is_hello, is))) =
    subst (IsSessionSound schema w') (sym is) (record {
      site_a = site;
      there_a = ap (λ (xs : List SiteData). slice_get xs first) same ∙ there;
      site_b = other;
      there_b = ap (λ (xs : List SiteData). slice_get xs second) same ∙ there_too;
      course = start_course schema (WasMet w'.met) first second site other hello (sound first site there) (sound second other there_too) is_hello;
    })

start_sounds : (schema : SchemaData) (w w' : WorldData) (s first : ℕ) (second : Option ℕ) (answer : Stepped) → IsSound schema w → StartsIn w s first second answer w' → Sounds schema w w'
start_sounds schema w w' s first second answer sound m =
    let next = record w { sessions = set w.sessions s (Some m.session); event = w.event + 1 } in
    subst (Sounds schema w) (sym m.is) (sounds schema w next sound (none_moves schema w next [] sound.sites refl (nothing_met w.met))
    (λ k n is. elim (session_set w.sessions s k m.session n is) [
      | inl new ↦ (m.session, inl new, inr (start_sound schema w next s first second m.session sound.sites refl m.starts))
      | inr old ↦ (n, inl refl, inl old)
    ]))

-- ---- Carry

met_frame : (rule : RuleData) (met : List MetData) (event : ℕ) (frame : FrameData) → Brings (IsEntryOf rule) frame → Brings (IsMetEntry rule (WasMet (met ++ met_in event frame))) frame
met_frame rule met event (Hello hello) h = tt
met_frame rule met event OtherVersion h = tt
met_frame rule met event (Item e) h = (h, (record { event = event; update = e.bytes }, Contains-append_right met (record { event = event; update = e.bytes } ∷ []) (record { event = event; update = e.bytes }) (first_member _ []), refl))
met_frame rule met event (BadItem why) h = tt
met_frame rule met event (Turn turn) h = tt
met_frame rule met event (NoFrame place) h = tt

known_updates : (rule : RuleData) (Met : List ℕ → Type 0) (s : SessionData) → IsEndKnown rule Met s → AllByRecursion (IsEntryOf rule) (s.waiting ++ s.gathered)
known_updates rule Met s k = each_append (IsEntryOf rule) s.waiting s.gathered (each_weaker (IsMetEntry rule Met) (IsEntryOf rule) (λ e h. h.0) s.waiting k.waiting) (each_weaker (IsMetEntry rule Met) (IsEntryOf rule) (λ e h. h.0) s.gathered k.gathered)

-- one frame to an end
pub takes_one : (rule : RuleData) (Met : List ℕ → Type 0) (old new : ReplicaState) (s next : SessionData) (frame : FrameData) (out : OutData) → IsEndKnown rule Met s → AreMembers rule old.history.members
    → TakesOne old s frame next out new → Extends rule old.history.members new.history.members
takes_one rule Met old new s next frame out known are t =
    steps_extend rule s next old.history.members new.history.members t.keeps.added frame out are (known_updates rule Met s known) t.keeps.members t.step

-- what stands behind a `Some`
pub the_site : (found : Option SiteData) (site other : SiteData) → found ≡ Some site → found ≡ Some other → site ≡ other
the_site found site other a b = let both : Some site ≡ Some other = sym a ∙ b in cc

cut_course : (rule : RuleData) (Met : List ℕ → Type 0) (broken : Bool) (m : TwoEnds) (list_a list_b : List (List ℕ)) → IsCourse rule Met m list_a list_b → IsCourse rule Met (record m { b = cut_if broken m.b }) list_a list_b
cut_course rule Met true m list_a list_b c = course_cut rule Met m m.a.is_cut _ list_a list_b c
cut_course rule Met false m list_a list_b c = c

cut_course_a : (rule : RuleData) (Met : List ℕ → Type 0) (broken : Bool) (m : TwoEnds) (list_a list_b : List (List ℕ)) → IsCourse rule Met m list_a list_b → IsCourse rule Met (record m { a = cut_if broken m.a }) list_a list_b
cut_course_a rule Met true m list_a list_b c = course_cut rule Met m _ m.b.is_cut list_a list_b c
cut_course_a rule Met false m list_a list_b c = c

-- the end that began reads
module _ (schema : SchemaData) (w : WorldData) (ends : TwoEnds) (both : IsBothSound schema w ends) (site : SiteData) (frame : FrameData) (rest : List FrameData) (next : SessionData) (out : OutData)
    (store : ReplicaState) where
  reads_a : AreSound schema w → site_at w ends.first ≡ Some site → ends.to_a ≡ frame ∷ rest → TakesOne site.store ends.a.state frame next out store
      → Extends schema.rule (held_by site) store.history.members
      × IsCourse schema.rule (WasMet (w.met ++ met_in w.event frame)) (carried ends next rest out) store.history.members (held_by both.site_b)
  reads_a sound there first t =
      let same = the_site (site_at w ends.first) both.site_a site both.there_a there in
      let are = (sound ends.first site there).members in
      let Later = WasMet (w.met ++ met_in w.event frame) in
      let course = subst (λ (x : SiteData). IsCourse schema.rule (WasMet w.met) ends (held_by x) (held_by both.site_b)) same both.course in
      let later = course_grows schema.rule (WasMet w.met) Later ends (held_by site) (held_by site) (held_by both.site_b) (held_by both.site_b) (λ u h. met_still w.met (met_in w.event frame) u h)
      (same_extends schema.rule (held_by site) are) (same_extends schema.rule (held_by both.site_b) (sound ends.second both.site_b both.there_b).members) course in
      let brings = met_frame schema.rule w.met w.event frame (subst (AllByRecursion (Brings (IsEntryOf schema.rule))) first later.way_a).0 in (
        takes_one schema.rule Later site.store store ends.a.state next frame out later.known_a are t,
        course_carries_a schema.rule Later ends (held_by site) store.history.members (held_by both.site_b) frame rest next out later are first brings t.step,
      )

  reads_b : AreSound schema w → site_at w ends.second ≡ Some site → ends.to_b ≡ frame ∷ rest → TakesOne site.store ends.b.state frame next out store
      → Extends schema.rule (held_by site) store.history.members
      × IsCourse schema.rule (WasMet (w.met ++ met_in w.event frame)) (turned (carried (turned ends) next rest out)) (held_by both.site_a) store.history.members
  reads_b sound there first t =
      let same = the_site (site_at w ends.second) both.site_b site both.there_b there in
      let are = (sound ends.second site there).members in
      let Later = WasMet (w.met ++ met_in w.event frame) in
      let course = subst (λ (x : SiteData). IsCourse schema.rule (WasMet w.met) ends (held_by both.site_a) (held_by x)) same both.course in
      let later = course_grows schema.rule (WasMet w.met) Later ends (held_by both.site_a) (held_by both.site_a) (held_by site) (held_by site) (λ u h. met_still w.met (met_in w.event frame) u h)
      (same_extends schema.rule (held_by both.site_a) (sound ends.first both.site_a both.there_a).members) (same_extends schema.rule (held_by site) are) course in
      let brings = met_frame schema.rule w.met w.event frame (subst (AllByRecursion (Brings (IsEntryOf schema.rule))) first later.way_b).0 in (
        takes_one schema.rule Later site.store store ends.b.state next frame out later.known_b are t,
        course_carries_b schema.rule Later ends (held_by site) store.history.members (held_by both.site_a) frame rest next out later are first brings t.step,
      )

-- what a Carry does to the replica that reads
pub carry_moves : (schema : SchemaData) (w w' : WorldData) (s : ℕ) (forward : Bool) (answer : Stepped) → IsSound schema w → (m : CarriesIn w s forward answer w')
    → SiteMoves schema m.site (record m.site { store = m.store; remembered = m.remembered })
carry_moves schema w w' s true answer sound m =
    let both = sound.sessions s (Both m.ends) m.there in
    store_moves schema m.site m.store m.remembered (sound.sites m.ends.second m.site m.reads) m.takes.keeps (reads_b schema w m.ends both m.site m.frame m.rest m.next m.out m.store sound.sites m.reads m.next_frame m.takes).0
carry_moves schema w w' s false answer sound m =
    let both = sound.sessions s (Both m.ends) m.there in
    store_moves schema m.site m.store m.remembered (sound.sites m.ends.first m.site m.reads) m.takes.keeps (reads_a schema w m.ends both m.site m.frame m.rest m.next m.out m.store sound.sites m.reads m.next_frame m.takes).0

carry_sounds : (schema : SchemaData) (w w' : WorldData) (s : ℕ) (forward : Bool) (answer : Stepped) → IsSound schema w → CarriesIn w s forward answer w' → Sounds schema w w'
carry_sounds schema w w' s false answer sound m =
    let both = sound.sessions s (Both m.ends) m.there in
    let failed = is_store m.next.ended in
    let new = record m.site { store = m.store; remembered = m.remembered } in
    let ends' = record (carried m.ends m.next m.rest m.out) { b = cut_if (is_broken_off m.next.ended) m.ends.b } in
    let mid = record w { sessions = set w.sessions s (Some (Both ends')); met = w.met ++ met_in w.event m.frame } in
    let moves = ending_moves schema failed w mid m.ends.first m.site new (met_in w.event m.frame) sound.sites m.reads (carry_moves schema w w' s false answer sound m) refl refl in
    let last = ending failed m.ends.first new mid in
    let read = (reads_a schema w m.ends both m.site m.frame m.rest m.next m.out m.store sound.sites m.reads m.next_frame m.takes).1 in
    let b = moves.on m.ends.second both.site_b both.there_b in
    let here : IsBothSound schema last ends' = record {
      site_a = sunk_if failed new;
      there_a = ending_here failed w mid m.ends.first m.site new m.reads refl;
      site_b = b.0;
      there_b = b.1;
      course = subst (λ (xs : List (List ℕ)). IsCourse schema.rule (WasMet last.met) ends' xs (held_by b.0)) (sym (sunk_held failed new))
          (course_grows schema.rule (WasMet (w.met ++ met_in w.event m.frame)) (WasMet last.met) ends' m.store.history.members m.store.history.members (held_by both.site_b) (held_by b.0)
          (λ u h. subst (λ (met : List MetData). WasMet met u) (sym (ending_met failed m.ends.first new mid)) h) (same_extends schema.rule m.store.history.members (carry_moves schema w w' s false answer sound m).sound.members) b.2.extends
          (cut_course schema.rule (WasMet (w.met ++ met_in w.event m.frame)) (is_broken_off m.next.ended) (carried m.ends m.next m.rest m.out) m.store.history.members (held_by both.site_b) read));
    } in
    subst (Sounds schema w) (sym m.is) (sounds schema w last sound moves
    (λ k n is. let was = ending_sessions failed mid m.ends.first k new n is in elim (session_set w.sessions s k (Both ends') was.0 was.1) [
      | inl same ↦ (was.0, was.2, inr (subst (IsSessionSound schema last) (sym same) here))
      | inr old ↦ (was.0, was.2, inl old)
    ]))
carry_sounds schema w w' s true answer sound m =
    let both = sound.sessions s (Both m.ends) m.there in
    let failed = is_store m.next.ended in
    let new = record m.site { store = m.store; remembered = m.remembered } in
    let ends' = record (turned (carried (turned m.ends) m.next m.rest m.out)) { a = cut_if (is_broken_off m.next.ended) m.ends.a } in
    let mid = record w { sessions = set w.sessions s (Some (Both ends')); met = w.met ++ met_in w.event m.frame } in
    let moves = ending_moves schema failed w mid m.ends.second m.site new (met_in w.event m.frame) sound.sites m.reads (carry_moves schema w w' s true answer sound m) refl refl in
    let last = ending failed m.ends.second new mid in
    let read = (reads_b schema w m.ends both m.site m.frame m.rest m.next m.out m.store sound.sites m.reads m.next_frame m.takes).1 in
    let a = moves.on m.ends.first both.site_a both.there_a in
    let here : IsBothSound schema last ends' = record {
      site_a = a.0;
      there_a = a.1;
      site_b = sunk_if failed new;
      there_b = ending_here failed w mid m.ends.second m.site new m.reads refl;
      course = subst (λ (xs : List (List ℕ)). IsCourse schema.rule (WasMet last.met) ends' (held_by a.0) xs) (sym (sunk_held failed new))
          (course_grows schema.rule (WasMet (w.met ++ met_in w.event m.frame)) (WasMet last.met) ends' (held_by both.site_a) (held_by a.0) m.store.history.members m.store.history.members
          (λ u h. subst (λ (met : List MetData). WasMet met u) (sym (ending_met failed m.ends.second new mid)) h) a.2.extends (same_extends schema.rule m.store.history.members (carry_moves schema w w' s true answer sound m).sound.members)
          (cut_course_a schema.rule (WasMet (w.met ++ met_in w.event m.frame)) (is_broken_off m.next.ended) (turned (carried (turned m.ends) m.next m.rest m.out)) (held_by both.site_a) m.store.history.members read));
    } in
    subst (Sounds schema w) (sym m.is) (sounds schema w last sound moves
    (λ k n is. let was = ending_sessions failed mid m.ends.second k new n is in elim (session_set w.sessions s k (Both ends') was.0 was.1) [
      | inl same ↦ (was.0, was.2, inr (subst (IsSessionSound schema last) (sym same) here))
      | inr old ↦ (was.0, was.2, inl old)
    ]))

-- ---- Feed

-- each frame that an end takes brings what was met
abbrev pub BringsAll : RuleData → (List ℕ → Type 0) → List FrameData → Type 0
BringsAll rule Met frames = AllByRecursion (Brings (IsMetEntry rule Met)) frames

pub record Took (rule : RuleData) (Met : List ℕ → Type 0) (old : ReplicaState) (next : SessionData) (new : ReplicaState) : Type 0 where
  pub known : IsEndKnown rule Met next
  pub extends : Extends rule old.history.members new.history.members
  pub keeps : KeepsOn old new

each_front : (P : FrameData → Type 0) (xs ys : List FrameData) → AllByRecursion P (xs ++ ys) → AllByRecursion P xs × AllByRecursion P ys
each_front P [] ys all = (tt, all)
each_front P (x ∷ xs) ys all = let rest = each_front P xs ys all.1 in ((all.0, rest.0), rest.1)

extends_then : (rule : RuleData) (a b c : List (List ℕ)) → Extends rule a b → Extends rule b c → Extends rule a c
extends_then rule a b c e f = record { more = e.more ++ f.more; begins = f.begins ∙ ap (λ (xs : List (List ℕ)). xs ++ f.more) e.begins ∙ append_assoc a e.more f.more; members = f.members }

pub takes_all : (rule : RuleData) (Met : List ℕ → Type 0) (old : ReplicaState) (s : SessionData) (new : ReplicaState) (next : SessionData) (frames : List FrameData) → IsEndKnown rule Met s → AreMembers rule old.history.members
    → BringsAll rule Met frames → TakesAll old s frames next new → Took rule Met old next new
takes_all rule Met old s new next [] known are brings (none _ _ same stays) = record {
  known = subst (IsEndKnown rule Met) (sym same) known;
  extends = subst (λ (x : ReplicaState). Extends rule old.history.members x.history.members) (sym stays) (same_extends rule old.history.members are);
  keeps = subst (KeepsOn old) (sym stays) (keeps_itself old);
}
takes_all rule Met old s new next _ known are brings (one_more frames frame mid _ between _ out before t) =
    let parts = each_front (Brings (IsMetEntry rule Met)) frames (frame ∷ []) brings in
    let took = takes_all rule Met old s between mid frames known are parts.0 before in
    let step = step_known rule Met mid next between.history.members frame out _ took.known took.extends.members parts.1.0 t.step in
    record {
      known = step.0;
      extends = extends_then rule old.history.members between.history.members new.history.members took.extends (takes_one rule Met between new mid next frame out took.known took.extends.members t);
      keeps = keeps_on old between new took.keeps t.keeps;
    }

pub met_frames : (rule : RuleData) (met : List MetData) (event : ℕ) (frames : List FrameData) → AllByRecursion (Brings (IsEntryOf rule)) frames → BringsAll rule (WasMet (met ++ all_met event frames)) frames
met_frames rule met event [] all = tt
met_frames rule met event (frame ∷ frames) all =
    let here = met_frame rule met event frame all.0 in
    let later = met_frames rule (met ++ met_in event frame) event frames all.1 in
    let same : (met ++ met_in event frame) ++ all_met event frames ≡ met ++ (met_in event frame ++ all_met event frames) = append_assoc met (met_in event frame) (all_met event frames) in
    (subst (λ (x : List MetData). Brings (IsMetEntry rule (WasMet x)) frame) same (longer frame here), subst (λ (x : List MetData). BringsAll rule (WasMet x) frames) same later)
  where
    longer : (f : FrameData) → Brings (IsMetEntry rule (WasMet (met ++ met_in event frame))) f → Brings (IsMetEntry rule (WasMet ((met ++ met_in event frame) ++ all_met event frames))) f
    longer (Hello hello) h = tt
    longer OtherVersion h = tt
    longer (Item e) h = (h.0, met_still (met ++ met_in event frame) (all_met event frames) e.bytes h.1)
    longer (BadItem why) h = tt
    longer (Turn turn) h = tt
    longer (NoFrame place) h = tt

pub feed_took : (schema : SchemaData) (w w' : WorldData) (s : ℕ) (bytes : List ℕ) (answer : Stepped) → IsSound schema w → (m : FeedsIn w s bytes answer w')
    → Took schema.rule (WasMet (w.met ++ all_met w.event m.heard)) m.site.store m.next m.store
feed_took schema w w' s bytes answer sound m =
    let site = sound.sites m.one.first m.site m.reads in
    let known = end_known_still schema.rule (WasMet w.met) (WasMet (w.met ++ all_met w.event m.heard)) m.one.end.state (λ u h. met_still w.met (all_met w.event m.heard) u h) (sound.sessions s (Liar m.one) m.there) in
    takes_all schema.rule (WasMet (w.met ++ all_met w.event m.heard)) m.site.store m.one.end.state m.store m.next m.heard known site.members
    (met_frames schema.rule w.met w.event m.heard (subst (λ (x : SchemaData). AllByRecursion (Brings (IsEntryOf x.rule)) m.heard) site.schema_is (heard_under m.site.store.history.schema.rule m.one.fed m.fed bytes m.heard m.hears))) m.takes

feed_sounds : (schema : SchemaData) (w w' : WorldData) (s : ℕ) (bytes : List ℕ) (answer : Stepped) → IsSound schema w → FeedsIn w s bytes answer w' → Sounds schema w w'
feed_sounds schema w w' s bytes answer sound m =
    let took = feed_took schema w w' s bytes answer sound m in
    let failed = is_store m.next.ended in
    let new = record m.site { store = m.store } in
    let one' = record m.one { end = record m.one.end { state = m.next }; fed = m.fed } in
    let mid = record w { sessions = set w.sessions s (Some (Liar one')); met = w.met ++ all_met w.event m.heard } in
    let site_moves = store_moves schema m.site m.store m.site.remembered (sound.sites m.one.first m.site m.reads) took.keeps took.extends in
    let moves = ending_moves schema failed w mid m.one.first m.site new (all_met w.event m.heard) sound.sites m.reads site_moves refl refl in
    let last = ending failed m.one.first new mid in
    let here : IsSessionSound schema last (Liar one') =
    end_known_still schema.rule (WasMet (w.met ++ all_met w.event m.heard)) (WasMet last.met) m.next (λ u h. subst (λ (met : List MetData). WasMet met u) (sym (ending_met failed m.one.first new mid)) h) took.known in
    subst (Sounds schema w) (sym m.is) (sounds schema w last sound moves
    (λ k n is. let was = ending_sessions failed mid m.one.first k new n is in elim (session_set w.sessions s k (Liar one') was.0 was.1) [
      | inl same ↦ (was.0, was.2, inr (subst (IsSessionSound schema last) (sym same) here))
      | inr old ↦ (was.0, was.2, inl old)
    ]))

-- ---- Cut, Stop and Restart

cut_sounds : (schema : SchemaData) (w w' : WorldData) (s : ℕ) (answer : Stepped) → IsSound schema w → CutsIn w s answer w' → Sounds schema w w'
cut_sounds schema w w' s answer sound m =
    let next = record w { sessions = set w.sessions s (Some (cut m.session)); event = w.event + 1 } in
    let moves = none_moves schema w next [] sound.sites refl (nothing_met w.met) in
    subst (Sounds schema w) (sym m.is) (sounds schema w next sound moves
    (λ k n is. elim (session_set w.sessions s k (cut m.session) n is) [
      | inl new ↦ (m.session, inr new, inr (session_on schema w next m.session moves (sound.sessions s m.session m.there)))
      | inr old ↦ (n, inl refl, inl old)
    ]))

stop_sounds : (schema : SchemaData) (w w' : WorldData) (answer : Stepped) → IsSound schema w → StopsIn w answer w' → Sounds schema w w'
stop_sounds schema w w' answer sound m =
    let next = record w { event = w.event + 1 } in
    subst (Sounds schema w) (sym m.is) (sounds schema w next sound (none_moves schema w next [] sound.sites refl (nothing_met w.met)) (λ k n is. (n, inl refl, inl is)))

restart_sounds : SchemaLaws → (ask : Meaning) (schema : SchemaData) (w w' : WorldData) (r choice : ℕ) (answer : Stepped) → TakesSchema ask schema.text schema → IsSound schema w → RestartsIn ask w r choice answer w' → Sounds schema w w'
restart_sounds laws ask schema w w' r choice answer taken sound m =
    let next = record w { sites = set w.sites r m.new; sessions = map (cut_with r) w.sessions; met = w.met ++ met_by w.event (held_by m.new); event = w.event + 1 } in
    let moves = one_moves schema w next r m.site m.new (met_by w.event (held_by m.new)) sound.sites m.there (restart_moves laws ask schema choice m.site m.new taken (sound.sites r m.site m.there) m.restarts) refl refl in
    subst (Sounds schema w) (sym m.is) (sounds schema w next sound moves (λ k n is. let was = session_cut w.sessions r k n is in (was.0, was.2, inl was.1)))

-- ---- every event

pub event_sounds : SchemaLaws → (ask : Meaning) (schema : SchemaData) (w w' : WorldData) (found : Bool) (event : Event) (answer : Stepped) → TakesSchema ask schema.text schema → IsSound schema w
    → HappensTo found ask w event answer w' → Sounds schema w w'
event_sounds laws ask schema w w' false event answer taken sound h =
    subst (Sounds schema w) (sym h.1) (sounds schema w w sound (none_moves schema w w [] sound.sites refl (nothing_met w.met)) (λ k n is. (n, inl refl, inl is)))
event_sounds laws ask schema w w' true (Make r ops) answer taken sound h = make_sounds ask schema w w' r ops answer sound h
event_sounds laws ask schema w w' true (Start s first second) answer taken sound h = start_sounds schema w w' s first second answer sound h
event_sounds laws ask schema w w' true (Carry s forward) answer taken sound h = carry_sounds schema w w' s forward answer sound h
event_sounds laws ask schema w w' true (Cut s) answer taken sound h = cut_sounds schema w w' s answer sound h
event_sounds laws ask schema w w' true (Feed s bytes) answer taken sound h = feed_sounds schema w w' s bytes answer sound h
event_sounds laws ask schema w w' true (Stop r calls) answer taken sound h = stop_sounds schema w w' answer sound h
event_sounds laws ask schema w w' true (Restart r choice) answer taken sound h = restart_sounds laws ask schema w w' r choice answer taken sound h
