-- What an event does to all replicas, and what it leaves of sessions to which nothing happens but that they are cut.
use Rattle.std.proofs.Common.{◌≡◌, ◌⊎◌, inl, inr, ℕ, Bool, true, false, List, ◌++◌, set, Contains, Some, refl, sym, ap, subst, ◌∙◌}
use Rattle.std.specs.Prelude.{slice_get}
use Rattle.std.proofs.lemmas.List.Elements.{Contains-append_left}
use Rattle.std.proofs.lemmas.Bool.{cases_eq}
use Rattle.schema.specs.Data.{SchemaData}
use Rattle.world_rules.specs.Happens.{ending}
use Rattle.world_rules.specs.Meetings.{TwoEnds}
use Rattle.world_rules.specs.Worlds.{SiteData, SessionOf, Both, Liar, MetData, WorldData, site_at, held_by, session_at, cut, sunk}
use Rattle.world_rules.proofs.Courses.{IsCourse, IsEndKnown, course_grows, course_cut, end_known_still}
use Rattle.world_rules.proofs.Places.{set_here, set_there, set_cases, session_cut}
use Rattle.world_rules.proofs.Sites.{IsSiteSound, SiteMoves, same_moves, sunk_moves}

-- the update was met
abbrev pub WasMet : List MetData → List ℕ → Type 0
WasMet met u = (m : MetData) × Contains met m × (m.update ≡ u)

pub met_still : (met more : List MetData) (u : List ℕ) → WasMet met u → WasMet (met ++ more) u
met_still met more u h = (h.0, Contains-append_left met more h.0 h.1, h.2)

abbrev pub AreSound : SchemaData → WorldData → Type 0
AreSound schema w = (r : ℕ) (site : SiteData) → site_at w r ≡ Some site → IsSiteSound schema site

-- What an event does to the replicas, and what was met.
pub record WorldMoves (schema : SchemaData) (w w' : WorldData) : Type 0 where
  pub on : (r : ℕ) (site : SiteData) → site_at w r ≡ Some site → (new : SiteData) × (site_at w' r ≡ Some new) × SiteMoves schema site new
  pub back : (r : ℕ) (new : SiteData) → site_at w' r ≡ Some new → (site : SiteData) × (site_at w r ≡ Some site) × SiteMoves schema site new
  pub more : List MetData
  pub met : w'.met ≡ w.met ++ more

-- no replica changes
pub none_moves : (schema : SchemaData) (w w' : WorldData) (more : List MetData) → AreSound schema w → w'.sites ≡ w.sites → w'.met ≡ w.met ++ more → WorldMoves schema w w'
none_moves schema w w' more sound same met = record {
  on = λ r site is. (site, ap (λ (xs : List SiteData). slice_get xs r) same ∙ is, same_moves schema site (sound r site is));
  back = λ r new is. let was = ap (λ (xs : List SiteData). slice_get xs r) (sym same) ∙ is in (new, was, same_moves schema new (sound r new was));
  more = more;
  met = met;
}

-- one changes
pub one_moves : (schema : SchemaData) (w w' : WorldData) (r : ℕ) (old new : SiteData) (more : List MetData) → AreSound schema w → site_at w r ≡ Some old → SiteMoves schema old new
    → w'.sites ≡ set w.sites r new → w'.met ≡ w.met ++ more → WorldMoves schema w w'
one_moves schema w w' r old new more sound there moves same met = record {
  on = on;
  back = back;
  more = more;
  met = met;
}
  where
    look : (k : ℕ) → slice_get w'.sites k ≡ slice_get (set w.sites r new) k
    look k = ap (λ (xs : List SiteData). slice_get xs k) same

    on : (k : ℕ) (site : SiteData) → site_at w k ≡ Some site → (next : SiteData) × (site_at w' k ≡ Some next) × SiteMoves schema site next
    on k site is = elim (cases_eq k r) [
      | inl here ↦
          let both : Some old ≡ Some site = sym there ∙ ap (λ j. slice_get w.sites j) (sym here) ∙ is in
          let one : old ≡ site = cc in
          (new, look k ∙ ap (λ j. slice_get (set w.sites r new) j) here ∙ set_here w.sites r new old there, subst (λ (s : SiteData). SiteMoves schema s new) one moves)
      | inr apart ↦ (site, look k ∙ set_there w.sites r k new site apart is, same_moves schema site (sound k site is))
    ]

    back : (k : ℕ) (next : SiteData) → site_at w' k ≡ Some next → (site : SiteData) × (site_at w k ≡ Some site) × SiteMoves schema site next
    back k next is = elim (set_cases w.sites r k new next (sym (look k) ∙ is)) [
      | inl here ↦ (old, ap (λ j. slice_get w.sites j) here.0 ∙ there, subst (λ (s : SiteData). SiteMoves schema old s) (sym here.1) moves)
      | inr there_still ↦ (next, there_still.1, same_moves schema next (sound k next there_still.1))
    ]

-- ---- after an event in which a replica may have failed

abbrev pub sunk_if : Bool → SiteData → SiteData
sunk_if true site = sunk site
sunk_if false site = site

pub ending_moves : (schema : SchemaData) (failed : Bool) (w mid : WorldData) (r : ℕ) (old new : SiteData) (more : List MetData) → AreSound schema w → site_at w r ≡ Some old → SiteMoves schema old new
    → mid.sites ≡ w.sites → mid.met ≡ w.met ++ more → WorldMoves schema w (ending failed r new mid)
ending_moves schema true w mid r old new more sound there moves same met =
    one_moves schema w (ending true r new mid) r old (sunk new) more sound there (sunk_moves schema old new moves) (ap (λ (xs : List SiteData). set xs r (sunk new)) same) met
ending_moves schema false w mid r old new more sound there moves same met =
    one_moves schema w (ending false r new mid) r old new more sound there moves (ap (λ (xs : List SiteData). set xs r new) same) met

pub ending_here : (failed : Bool) (w mid : WorldData) (r : ℕ) (old new : SiteData) → site_at w r ≡ Some old → mid.sites ≡ w.sites → site_at (ending failed r new mid) r ≡ Some (sunk_if failed new)
ending_here true w mid r old new there same = ap (λ (xs : List SiteData). slice_get (set xs r (sunk new)) r) same ∙ set_here w.sites r (sunk new) old there
ending_here false w mid r old new there same = ap (λ (xs : List SiteData). slice_get (set xs r new) r) same ∙ set_here w.sites r new old there

pub ending_met : (failed : Bool) (r : ℕ) (site : SiteData) (mid : WorldData) → (ending failed r site mid).met ≡ mid.met
ending_met true r site mid = refl
ending_met false r site mid = refl

pub sunk_held : (failed : Bool) (site : SiteData) → held_by (sunk_if failed site) ≡ held_by site
sunk_held true site = refl
sunk_held false site = refl

-- a session that is there then was there, and may have been cut
pub ending_sessions : (failed : Bool) (mid : WorldData) (r s : ℕ) (new : SiteData) (n : SessionOf) → session_at (ending failed r new mid) s ≡ Some n
    → (m : SessionOf) × (session_at mid s ≡ Some m) × ((n ≡ m) ⊎ (n ≡ cut m))
ending_sessions true mid r s new n is = session_cut mid.sessions r s n is
ending_sessions false mid r s new n is = (n, is, inl refl)

-- ---- sessions

-- Two ends over the lists of their replicas.
pub record IsBothSound (schema : SchemaData) (w : WorldData) (m : TwoEnds) : Type 0 where
  pub site_a : SiteData
  pub there_a : site_at w m.first ≡ Some site_a
  pub site_b : SiteData
  pub there_b : site_at w m.second ≡ Some site_b
  pub course : IsCourse schema.rule (WasMet w.met) m (held_by site_a) (held_by site_b)

-- A session is as the rules have it, and all that its ends have besides their lists was met.
abbrev pub IsSessionSound : SchemaData → WorldData → SessionOf → Type 0
IsSessionSound schema w (Both m) = IsBothSound schema w m
IsSessionSound schema w (Liar one) = IsEndKnown schema.rule (WasMet w.met) one.end.state

pub met_on : (schema : SchemaData) (w w' : WorldData) (moves : WorldMoves schema w w') (u : List ℕ) → WasMet w.met u → WasMet w'.met u
met_on schema w w' moves u h = subst (λ (met : List MetData). WasMet met u) (sym moves.met) (met_still w.met moves.more u h)

pub session_on : (schema : SchemaData) (w w' : WorldData) (m : SessionOf) → WorldMoves schema w w' → IsSessionSound schema w m → IsSessionSound schema w' m
session_on schema w w' (Both m) moves s =
    let a = moves.on m.first s.site_a s.there_a in
    let b = moves.on m.second s.site_b s.there_b in
    record {
      site_a = a.0;
      there_a = a.1;
      site_b = b.0;
      there_b = b.1;
      course = course_grows schema.rule (WasMet w.met) (WasMet w'.met) m (held_by s.site_a) (held_by a.0) (held_by s.site_b) (held_by b.0) (met_on schema w w' moves) a.2.extends b.2.extends s.course;
    }
session_on schema w w' (Liar one) moves s = end_known_still schema.rule (WasMet w.met) (WasMet w'.met) one.end.state (met_on schema w w' moves) s

pub session_cut_sound : (schema : SchemaData) (w : WorldData) (m : SessionOf) → IsSessionSound schema w m → IsSessionSound schema w (cut m)
session_cut_sound schema w (Both m) s = record {
  site_a = s.site_a;
  there_a = s.there_a;
  site_b = s.site_b;
  there_b = s.there_b;
  course = course_cut schema.rule (WasMet w.met) m _ _ (held_by s.site_a) (held_by s.site_b) s.course;
}
session_cut_sound schema w (Liar one) s = record { waiting = s.waiting; gathered = s.gathered; start = s.start }

-- A world as each event leaves it.
pub record IsSound (schema : SchemaData) (w : WorldData) : Type 0 where
  pub sites : AreSound schema w
  pub sessions : (s : ℕ) (m : SessionOf) → session_at w s ≡ Some m → IsSessionSound schema w m

-- what an event leaves, and what it did to the replicas
abbrev pub Sounds : SchemaData → WorldData → WorldData → Type 0
Sounds schema w w' = IsSound schema w' × WorldMoves schema w w'

-- Each session was there, or is sound; and it may have been cut.
pub sounds : (schema : SchemaData) (w w' : WorldData) → IsSound schema w → WorldMoves schema w w'
    → ((s : ℕ) (n : SessionOf) → session_at w' s ≡ Some n → (m : SessionOf) × ((n ≡ m) ⊎ (n ≡ cut m)) × ((session_at w s ≡ Some m) ⊎ IsSessionSound schema w' m))
    → Sounds schema w w'
sounds schema w w' sound moves each = (
  record {
    sites = λ r site is. (moves.back r site is).2.sound;
    sessions = λ s n is. by_each s n (each s n is);
  },
  moves,
)
  where
    was : (s : ℕ) (m : SessionOf) → (session_at w s ≡ Some m) ⊎ IsSessionSound schema w' m → IsSessionSound schema w' m
    was s m (inl there) = session_on schema w w' m moves (sound.sessions s m there)
    was s m (inr new) = new

    by_each : (s : ℕ) (n : SessionOf) → (m : SessionOf) × ((n ≡ m) ⊎ (n ≡ cut m)) × ((session_at w s ≡ Some m) ⊎ IsSessionSound schema w' m) → IsSessionSound schema w' n
    by_each s n (m, inl same, from) = subst (IsSessionSound schema w') (sym same) (was s m from)
    by_each s n (m, inr same, from) = subst (IsSessionSound schema w') (sym same) (session_cut_sound schema w' m (was s m from))
