-- What the code of a world keeps when one replica goes on.
use Rattle.std.proofs.Common.{◌≡◌, inl, inr, ℕ, Bool, true, false, ◌||◌, List, length, get_or, set, All, Option, Some, None, refl, sym, ap, subst, ◌∙◌, length-set}
use Rattle.std.specs.Prelude.{is_some, not, slice_get, if◌then◌else◌}
use Rattle.std.proofs.lemmas.List.{length-map}
use Rattle.std.proofs.lemmas.List.Elements.{All-map}
use Rattle.schema.specs.Data.{SchemaData}
use Rattle.session_rules.specs.declared.end.End.{End}
use Rattle.update_model.specs.Rule.{RuleData}
use Rattle.byzantine_world.specs.Codes.{cut_code, cut_talk, list_at, takes_part_in}
use Rattle.byzantine_world.specs.Events.{cut_code_with, cut_where}
use Rattle.byzantine_world.specs.Standing.{IsSideSound, IsStanding, IsTalkSound}
use Rattle.byzantine_world.specs.declared.talk.Side.{Side}
use Rattle.byzantine_world.specs.declared.talk.Talk.{Talk}
use Rattle.byzantine_world.specs.declared.talk.Talk.TheVariants as talks
use Rattle.byzantine_world.proofs.Acts.{all_sound, grow_one}
use Rattle.world_rules.specs.Worlds.{SiteData}
use Rattle.world_rules.proofs.Moving.{sunk_if}
use Rattle.world_rules.proofs.Places.{set_cases}
use Rattle.world_rules.proofs.Sites.{IsSiteSound, SiteMoves, sunk_moves}

-- ---- what is cut stays sound

pub side_cut : (rule : RuleData) (members : List (List ℕ)) (side : Side) → IsSideSound rule members side → IsSideSound rule members (cut_code side)
side_cut rule members side s = record { belongs = s.belongs; runs = s.runs; told = s.told }

over_cut : (ended : Option End) (was : Bool) → (is_some ended || (was || not (is_some ended))) ≡ false → ⊥
over_cut None true e = absurd cc
over_cut None false e = absurd cc
over_cut (Some end) was e = absurd cc

pub talk_cut : (rule : RuleData) (sites : List SiteData) (talk : Talk) → IsTalkSound rule sites (Some talk) → IsTalkSound rule sites (Some (cut_talk talk))
talk_cut rule sites (talks.Both both) s = record {
  first = s.first;
  second = s.second;
  a = side_cut rule (list_at sites both.first) both.a s.a;
  b = side_cut rule (list_at sites both.second) both.b s.b;
  to_a = s.to_a;
  to_b = s.to_b;
}
talk_cut rule sites (talks.Liar liar) s = record {
  first = s.first;
  end = side_cut rule (list_at sites liar.first) liar.end s.end;
  fine = λ runs broken. over_cut liar.end.ended liar.end.is_cut runs;
}

by_part : (rule : RuleData) (sites : List SiteData) (part : Bool) (talk : Talk) → IsTalkSound rule sites (Some talk) → IsTalkSound rule sites (Some (if part then cut_talk talk else talk))
by_part rule sites true talk s = talk_cut rule sites talk s
by_part rule sites false talk s = s

pub one_cut : (rule : RuleData) (sites : List SiteData) (r : ℕ) (talk : Option Talk) → IsTalkSound rule sites talk → IsTalkSound rule sites (cut_code_with r talk)
one_cut rule sites r None s = tt
one_cut rule sites r (Some talk) s = by_part rule sites (takes_part_in r talk) talk s

pub all_cut : (rule : RuleData) (sites : List SiteData) (failed : Bool) (r : ℕ) (sessions : List (Option Talk)) → All (IsTalkSound rule sites) sessions → All (IsTalkSound rule sites) (cut_where failed r sessions)
all_cut rule sites true r sessions all = All-map (IsTalkSound rule sites) (cut_code_with r) sessions (λ k d low. one_cut rule sites r (get_or sessions k d) (all k d low))
all_cut rule sites false r sessions all = all

pub many_cut : (failed : Bool) (r : ℕ) (sessions : List (Option Talk)) → length (cut_where failed r sessions) ≡ length sessions
many_cut true r sessions = length-map sessions (cut_code_with r)
many_cut false r sessions = refl

-- ---- one replica went on

pub moves_if : (failed : Bool) (site new : SiteData) (st_schema : SchemaData) → SiteMoves st_schema site new → SiteMoves st_schema site (sunk_if failed new)
moves_if true site new schema m = sunk_moves schema site new m
moves_if false site new schema m = m

pub remembered_if : (failed : Bool) (new : SiteData) → length (sunk_if failed new).remembered ≡ length new.remembered
remembered_if true new = refl
remembered_if false new = refl

-- each replica is as an event leaves it
pub one_each : (sites : List SiteData) (sessions : List (Option Talk)) (st : IsStanding sites sessions) (r : ℕ) (site new : SiteData) (failed : Bool) → slice_get sites r ≡ Some site
    → SiteMoves st.schema site new → length new.remembered ≡ length site.remembered → (q : ℕ) (s : SiteData) → slice_get (set sites r (sunk_if failed new)) q ≡ Some s
    → IsSiteSound st.schema s × (length s.remembered ≡ length (set sites r (sunk_if failed new)))
one_each sites sessions st r site new failed there moves many q s is =
    let last = sunk_if failed new in
    let moved = moves_if failed site new st.schema moves in
    elim (set_cases sites r q last s is) [
      | inl here ↦ (
        subst (IsSiteSound st.schema) (sym here.1) moved.sound,
        ap (λ (x : SiteData). length x.remembered) here.1 ∙ remembered_if failed new ∙ many ∙ (st.each r site there).1 ∙ sym (length-set sites r last),
      )
      | inr apart ↦ let was = st.each q s apart.1 in (was.0, was.1 ∙ sym (length-set sites r last))
    ]

pub one_stands : (sites : List SiteData) (sessions : List (Option Talk)) (st : IsStanding sites sessions) (r : ℕ) (site new : SiteData) (failed : Bool) → slice_get sites r ≡ Some site
    → SiteMoves st.schema site new → length new.remembered ≡ length site.remembered → IsStanding (set sites r (sunk_if failed new)) (cut_where failed r sessions)
one_stands sites sessions st r site new failed there moves many =
    let sites' = set sites r (sunk_if failed new) in
    let grow = grow_one sites sessions st r site there (sunk_if failed new) (moves_if failed site new st.schema moves).extends in
    record {
      schema = st.schema;
      taken = st.taken;
      each = one_each sites sessions st r site new failed there moves many;
      sessions_are = all_cut st.schema.rule sites' failed r sessions (all_sound st.schema.rule sites sites' sessions grow st.sessions_are);
      numbers = many_cut failed r sessions ∙ st.numbers;
    }
