-- What stands after every list of events.
use Rattle.std.proofs.Common.{◌≡◌, inl, inr, ℕ, List, [], ◌++◌, length, map, take, drop, Contains, Some, refl, sym, ap, subst, ◌∙◌}
use Rattle.std.specs.List.{AllByRecursion, IsDistinct}
use Rattle.std.proofs.lemmas.List.Elements.{All-from_recursion, recursion_from_All}
use Rattle.bec_bytes.specs.Framed.{stream_of}
use Rattle.bec_disk.specs.Disk.{EveryImage}
use Rattle.confluence_test.specs.Taking.{TakesSchema}
use Rattle.key_index.specs.Used.{IsUsed}
use Rattle.schema.specs.Data.{Meaning, SchemaData}
use Rattle.session_rules.proofs.Facts.{no_faults, in_bound, done_a, done_b}
use Rattle.session_rules.proofs.Runs.{holds_always}
use Rattle.session_rules.proofs.Words.{each_member}
use Rattle.update_check.specs.Members.{AreMembers}
use Rattle.update_check.specs.Signed.{IsChecked, IsSigned}
use Rattle.update_codec.specs.Parts.{author_of, body_of, entry_of, update_of}
use Rattle.update_codec.specs.Spelling.{Spells, message}
use Rattle.update_codec.proofs.Places.{update_stands}
use Rattle.lms_tree.specs.SecretKey.{public_key}
use Rattle.session_rules.specs.Laws.{NoCollision}
use Rattle.std.specs.Int.{w32, to_be_bytes}
use Rattle.std.proofs.lemmas.List.{take-append-drop}
use Rattle.table_model.specs.Visible.{rules_with}
use Rattle.table_model.proofs.Members.{contains_mapped}
use Rattle.update_check.proofs.Fronts.{members_front}
use Rattle.update_model.specs.declared.author_key.AuthorKey.{AuthorKey}
use Rattle.update_model.specs.declared.update_id.UpdateId.{UpdateId}
use Rattle.update_model.specs.Block.{IsBlock}
use Rattle.update_model.specs.Form.{BodyData, UpdateData, IsBody, signature_length}
use Rattle.update_model.specs.Graph.{AreHeads}
use Rattle.update_log.specs.Logset.{BeginsWith}
use Rattle.update_model.specs.Batch.{store_limits}
use Rattle.update_model.specs.Rule.{RuleData}
use Rattle.world_rules.specs.declared.event.Event.{Event}
use Rattle.world_rules.specs.declared.event.Stepped.{Stepped}
use Rattle.world_rules.specs.Happens.{Happens, IsReached, Reaches, begins, goes, IsNew, IsNewSite, finds}
use Rattle.world_rules.specs.Laws.{HaveOneSet, HoldsInvariants, KeepsList, LeavesThrough, NoForgery, IsKeyOf, IsOfMake, IsSoundTalk, StandsBehind, same_index}
use Rattle.world_rules.specs.Meetings.{TwoEnds, over_lists}
use Rattle.world_rules.specs.Worlds.{SiteData, Both, SignedData, WorldData, site_at, held_by, session_at}
use Rattle.world_rules.proofs.Sites.{IsSiteSound, stands_behind, through_weakened}
use Rattle.world_rules.proofs.Moving.{IsSound}
use Rattle.world_rules.proofs.Events.{event_sounds, the_site}
use Rattle.world_rules.proofs.Signing.{AreSigned, IsSignature, event_signed}
use Rattle.world_rules.proofs.Below.{all_below}
use Rattle.world_rules.proofs.Schemas.{SchemaLaws}
use Rattle.world_rules.proofs.Sets.{invariants_hold, one_set}
use Rattle.world_rules.proofs.Making.{AreKnown, IsKnown, event_known}
use Rattle.world_rules.proofs.Leaves.{AreLong, event_long, new_long}

-- The invariant of all runs.
pub record Stands (schema : SchemaData) (w : WorldData) : Type 0 where
  pub sound : IsSound schema w
  pub signed : AreSigned w
  pub known : AreKnown w
  pub long : AreLong w

no_members : (rule : RuleData) → AreMembers rule []
no_members rule = record { checked = All-from_recursion (IsChecked rule) [] tt; closed = tt; within = refl }

begins_with_none : (image : List ℕ) → BeginsWith (stream_of []) image
unfolding stream_of
begins_with_none image = (image, refl)

new_site : (ask : Meaning) (schema : SchemaData) (site : SiteData) → IsNewSite ask schema site → IsSiteSound schema site
new_site ask schema site n =
    let empty : held_by site ≡ [] = n.created.members refl in
    record {
      schema_is = n.schema_is;
      members = subst (AreMembers schema.rule) (sym empty) (no_members schema.rule);
      schema_tells = n.schema_tells;
      settled = n.created.settled refl;
      declares = n.created.seen refl;
      size = n.size;
      short = n.short;
      log_tells = n.log_tells;
      on_disk = λ image left. subst (λ (us : List (List ℕ)). BeginsWith (stream_of us) image) (sym empty) (begins_with_none image);
      used_tells = n.used_tells;
      key_tells = n.key_tells;
      key_settled = n.key_settled;
      key_holds = n.key_holds;
    }

new_stands : (ask : Meaning) (schema : SchemaData) (w : WorldData) → IsNew ask schema w → Stands schema w
unfolding IsDistinct
new_stands ask schema w n = record {
  sound = record {
    sites = λ r site there. new_site ask schema site (n.sites r site there);
    sessions = λ s m there. absurd (let none = n.sessions s in cc);
  };
  signed = record { each = subst (AllByRecursion (IsSignature w)) (sym n.signed) tt; distinct = subst (IsDistinct same_index) (sym n.signed) tt };
  known = λ r site there. subst (AllByRecursion (IsKnown w r)) (sym ((n.sites r site there).created.members refl)) tt;
  long = new_long ask schema w n;
}

stands_after : SchemaLaws → (ask : Meaning) (schema : SchemaData) (first w : WorldData) → IsNew ask schema first → Reaches ask first w → Stands schema w
stands_after laws ask schema first w n (begins _ is) = subst (Stands schema) (sym is) (new_stands ask schema first n)
stands_after laws ask schema first w n (goes before _ event answer run happens) =
    let s = stands_after laws ask schema first before n run in
    let next = event_sounds laws ask schema before w (finds before event) event answer n.taken s.sound happens in
    record {
      sound = next.0;
      signed = event_signed ask schema before w (finds before event) event answer s.sound.sites next.1 s.signed happens;
      known = event_known ask schema before w (finds before event) event answer s.sound s.long s.known happens;
      long = event_long ask before w (finds before event) event answer s.long happens;
    }

pub stands_always : SchemaLaws → (ask : Meaning) (schema : SchemaData) (w : WorldData) → IsReached ask schema w → Stands schema w
stands_always laws ask schema w reached = stands_after laws ask schema reached.0 w reached.1 reached.2

-- ---- lists

pub keeps_list : SchemaLaws → (ask : Meaning) (schema : SchemaData) (w w' : WorldData) (event : Event) (answer : Stepped) (r : ℕ) (site : SiteData) → IsReached ask schema w
    → Happens ask w event answer w' → site_at w r ≡ Some site → (new : SiteData) × (site_at w' r ≡ Some new) × KeepsList schema site new
keeps_list laws ask schema w w' event answer r site reached happens there =
    let s = stands_always laws ask schema w reached in
    let to = (event_sounds laws ask schema w w' (finds w event) event answer reached.1.taken s.sound happens).1.on r site there in (
      to.0,
      to.1,
      record {
        extends = to.2.extends;
        in_front = to.2.log;
        any_moment = through_weakened site.store.log.disk to.0.store.log.disk (BeginsWith (stream_of (held_by site))) (StandsBehind schema.rule (held_by site))
            (λ image h. stands_behind schema.rule (held_by site) image (s.sound.sites r site there).members h) to.2.log;
      },
    )

-- ---- keys

pub used_through : SchemaLaws → (ask : Meaning) (schema : SchemaData) (w w' : WorldData) (event : Event) (answer : Stepped) (s : SignedData) (site : SiteData) → IsReached ask schema w
    → Happens ask w event answer w' → Contains w.signed s → site_at w s.replica ≡ Some site → (new : SiteData) × (site_at w' s.replica ≡ Some new) × LeavesThrough site.key.parts.used new.key.parts.used (IsUsed s.index)
used_through laws ask schema w w' event answer s site reached happens signed there =
    let stands = stands_always laws ask schema w reached in
    let g = each_member (IsSignature w) w.signed s stands.signed.each signed in
    let same = the_site (site_at w s.replica) g.site site g.there there in
    let to = (event_sounds laws ask schema w w' (finds w event) event answer reached.1.taken stands.sound happens).1.on s.replica site there in
    (to.0, to.1, to.2.used s.index (subst (λ (x : SiteData). EveryImage x.key.parts.used.now (IsUsed s.index)) same g.used))

-- ---- sessions

pub sound_talk : (schema : SchemaData) (w : WorldData) (s : ℕ) (m : TwoEnds) (a b : SiteData) → Stands schema w → session_at w s ≡ Some (Both m) → site_at w m.first ≡ Some a → site_at w m.second ≡ Some b
    → IsSoundTalk m (held_by a) (held_by b)
sound_talk schema w s m a b stands there at_a at_b =
    let both = stands.sound.sessions s (Both m) there in
    let same_a = the_site (site_at w m.first) both.site_a a both.there_a at_a in
    let same_b = the_site (site_at w m.second) both.site_b b both.there_b at_b in
    let inv = holds_always store_limits store_limits both.course.opening (over_lists m (held_by both.site_a) (held_by both.site_b)) both.course.opens both.course.run in
    let p = over_lists m (held_by both.site_a) (held_by both.site_b) in
    let talk : IsSoundTalk m (held_by both.site_a) (held_by both.site_b) = record {
      fault_a = (no_faults p inv).0;
      fault_b = (no_faults p inv).1;
      turns_a = (in_bound p inv).0;
      turns_b = (in_bound p inv).1;
      done_a = λ alike done. done_a p inv alike done;
      done_b = λ alike done. done_b p inv alike done;
    } in
    subst (λ (x : SiteData). IsSoundTalk m (held_by x) (held_by b)) same_a (subst (λ (x : SiteData). IsSoundTalk m (held_by both.site_a) (held_by x)) same_b talk)

-- ---- who made what

pub checked_signed : (rule : RuleData) (u : List ℕ) → IsChecked rule u → IsSigned u
checked_signed rule u h = (h.0, h.1)

-- of one author a message is that of one body
one_body : (u : List ℕ) (body : BodyData) → IsSigned u → IsBody body → body.author ≡ author_of u → message body ≡ message (body_of u) → body ≡ body_of u
one_body u body h form author same =
    let spells = h.1.spells in
    let is : update_of u ≡ h.0 = update_stands u h.0 spells in
    let of : body_of u ≡ h.0.body = ap (λ (x : UpdateData). x.body) is in
    let by : body.author ≡ h.0.body.author = author ∙ ap (λ (x : BodyData). x.author) of in
    let other : Spells u (record { body = body; signature = h.0.signature }) = record {
      form = record { body = form; signature = subst (λ (k : AuthorKey). IsBlock (signature_length k) h.0.signature) (sym by) spells.form.signature };
      spells = spells.spells ∙ ap (λ (m : List ℕ). m ++ (to_be_bytes w32 (length h.0.signature) ++ h.0.signature)) (ap message (sym of) ∙ sym same);
      short = spells.short;
    } in
    sym (ap (λ (x : UpdateData). x.body) (update_stands u (record { body = body; signature = h.0.signature }) other))

of_signature : (schema : SchemaData) (w : WorldData) (graph : List (List ℕ)) (u : List ℕ) (s : SignedData) → Stands schema w → AreMembers schema.rule graph → Contains graph u → Contains w.signed s → s.body ≡ body_of u
    → IsOfMake w s.replica graph u
of_signature schema w graph u s stands are held signed is =
    let g = each_member (IsSignature w) w.signed s stands.signed.each signed in
    let names = subst (λ (b : BodyData). AreHeads (map entry_of (take s.held (held_by g.site))) b.preds) is g.names in
    let front = members_front schema.rule (take s.held (held_by g.site)) (drop s.held (held_by g.site))
    (subst (AreMembers schema.rule) (sym (take-append-drop s.held (held_by g.site))) (stands.sound.sites s.replica g.site g.there).members) in
    record {
      signature = s;
      signed = signed;
      replica = refl;
      body = is;
      site = g.site;
      there = g.there;
      within = g.within;
      names = names;
      above = λ alike e c. all_below (map entry_of (take s.held (held_by g.site))) (map entry_of graph) (entry_of u) front.closed are.closed alike names (contains_mapped entry_of u graph held) e c;
    }

pub of_make : (schema : SchemaData) (w : WorldData) (q r : ℕ) (site : SiteData) (u : List ℕ) → Stands schema w → NoForgery w → site_at w q ≡ Some site → Contains (held_by site) u → IsKeyOf w r u
    → (by : ℕ) × IsKeyOf w by u × IsOfMake w by (held_by site) u
of_make schema w q r site u stands honest there held key = by_known (each_member (IsKnown w q) (held_by site) u (stands.known q site there) held)
  where
    are : AreMembers schema.rule (held_by site)
    are = (stands.sound.sites q site there).members

    checked : IsChecked schema.rule u
    checked = each_member (IsChecked schema.rule) (held_by site) u (recursion_from_All (IsChecked schema.rule) (held_by site) (stands.sound.sites q site there).members.checked) held

    key_of : (s : SignedData) → Contains w.signed s → s.body ≡ body_of u → IsKeyOf w s.replica u
    key_of s signed is =
        let g = each_member (IsSignature w) w.signed s stands.signed.each signed in
        record { site = g.site; there = g.there; author = ap (λ (b : BodyData). b.author) (sym is) ∙ g.author }

    by_known : IsKnown w q u → (by : ℕ) × IsKeyOf w by u × IsOfMake w by (held_by site) u
    by_known (inr made) = (made.0.replica, key_of made.0 made.1 made.3, of_signature schema w (held_by site) u made.0 stands (stands.sound.sites q site there).members held made.1 made.3)
    by_known (inl met) =
        let signed_u : IsSigned met.0.update = subst IsSigned (sym met.2) (checked_signed schema.rule u (each_member (IsChecked schema.rule) (held_by site) u (recursion_from_All (IsChecked schema.rule) (held_by site) (stands.sound.sites q site there).members.checked) held)) in
        let was = honest met.0 r met.1 signed_u (subst (IsKeyOf w r) (sym met.2) key) in
        let g = each_member (IsSignature w) w.signed was.0 stands.signed.each was.1 in
        let same = the_site (site_at w r) key.site g.site key.there (ap (λ k. site_at w k) (sym was.2) ∙ g.there) in
        let author : was.0.body.author ≡ author_of u = g.author ∙ ap (λ (x : SiteData). public_key x.key.secret) (sym same) ∙ sym key.author in
        let body : was.0.body ≡ body_of u = one_body u was.0.body (subst IsSigned met.2 signed_u) g.form author (was.3 ∙ ap (λ v. message (body_of v)) met.2) in
        (was.0.replica, key_of was.0 was.1 body, of_signature schema w (held_by site) u was.0 stands (stands.sound.sites q site there).members held was.1 body)

-- ---- sets, tables and invariants

pub of_heads : (ask : Meaning) (schema : SchemaData) (w : WorldData) (r q : ℕ) (a b : SiteData) (heads : List UpdateId) → Stands schema w → site_at w r ≡ Some a → site_at w q ≡ Some b
    → AreHeads (map entry_of (held_by a)) heads → AreHeads (map entry_of (held_by b)) heads → NoCollision (map entry_of (held_by a)) (map entry_of (held_by b))
    → HaveOneSet (rules_with ask schema.tables) (held_by a) (held_by b)
of_heads ask schema w r q a b heads stands at_a at_b heads_a heads_b alike =
    one_set schema.rule (rules_with ask schema.tables) (held_by a) (held_by b) heads (stands.sound.sites r a at_a).members (stands.sound.sites q b at_b).members alike heads_a heads_b

pub of_invariants : SchemaLaws → (ask : Meaning) (schema : SchemaData) (w : WorldData) (r : ℕ) (site : SiteData) → TakesSchema ask schema.text schema → Stands schema w → site_at w r ≡ Some site
    → HoldsInvariants (rules_with ask schema.tables) (held_by site)
of_invariants laws ask schema w r site taken stands there =
    invariants_hold schema.rule (rules_with ask schema.tables) (held_by site) (laws.sound ask schema.text schema taken.declares).tables taken.accepted (stands.sound.sites r site there).members
