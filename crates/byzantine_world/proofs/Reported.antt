-- What a report reads of a world.
use Rattle.std.proofs.Common.{◌≡◌, ◌⊎◌, inl, inr, ℕ, zero, suc, ◌+◌, ◌<◌, List, take, get_or, [], ◌∷◌, ◌++◌, length, map, All, Option, Some, None, refl, sym, ap, ap₂, subst, ◌∙◌, arith, add-zero, length-append}
use Rattle.std.specs.Prelude.{option_map, slice_get}
use Rattle.std.proofs.lemmas.List.{length-take-le, map-append, take_more}
use Rattle.std.proofs.lemmas.List.Elements.{All-head, All-tail}
use Rattle.history.specs.Histories.{nodes_of}
use Rattle.replica.specs.Replicas.{ReplicaState}
use Rattle.schema.specs.Data.{Meaning}
use Rattle.session_rules.specs.declared.end.End.{End}
use Rattle.table_model.specs.Tables.{AreRowsIn, AreVoidsIn}
use Rattle.table_model.specs.Visible.{Rules, rules_with}
use Rattle.table_model.specs.declared.shown_row.ShownRow.{ShownRow}
use Rattle.table_model.specs.declared.void_line.VoidLine.{VoidLine}
use Rattle.tuple_state.specs.State.{IsStateOf, State}
use Rattle.update_codec.specs.Parts.{entry_of}
use Rattle.update_model.specs.declared.update_id.UpdateId.{UpdateId}
use Rattle.update_model.specs.Graph.{AreHeads}
use Rattle.update_model.specs.Node.{NodeData}
use Rattle.update_model.specs.Rule.{RuleData}
use Rattle.byzantine_world.specs.Codes.{Shows, end_over, list_at, talk_over}
use Rattle.byzantine_world.specs.Shown.{AreCounts, AreRowCounts, AreShownReplicas, IsShownReplica, end_shown, session_shown, sessions_shown, shown_as, talk_shown, talks_shown}
use Rattle.byzantine_world.specs.Standing.{IsSideSound, IsStanding, IsTalkSound}
use Rattle.byzantine_world.specs.declared.talk.Side.{Side}
use Rattle.byzantine_world.specs.declared.talk.Talk.{Talk}
use Rattle.byzantine_world.specs.declared.talk.Talk.TheVariants as talks
use Rattle.world_report.specs.declared.shown.Counts.{Counts}
use Rattle.world_report.specs.declared.shown.ShownEnd.{ShownEnd}
use Rattle.world_report.specs.declared.shown.ShownReplica.{ShownReplica}
use Rattle.world_report.specs.declared.shown.ShownSession.{ShownSession}
use Rattle.world_rules.specs.Worlds.{SiteData, WorldData}

-- ---- sessions

module _ (rule : RuleData) (sites : List SiteData) where
  end_is : (q : ℕ) (side : Side) → IsSideSound rule (list_at sites q) side → end_shown (end_over sites q side) ≡ shown_as side.ended side.is_cut
  end_is q side s = ap (λ (e : Option End). shown_as e side.is_cut) s.told

  talk_is : (number : ℕ) (talk : Talk) → IsTalkSound rule sites (Some talk) → session_shown number (talk_over sites talk) ≡ talk_shown number talk
  talk_is number (talks.Both both) s = ap₂ (λ (a b : ShownEnd). record { number = number; first = a; second = Some b }) (end_is both.first both.a s.a) (end_is both.second both.b s.b)
  talk_is number (talks.Liar liar) s = ap (λ (e : ShownEnd). record { number = number; first = e; second = None }) (end_is liar.first liar.end s.end)

  -- the sessions of the code are shown as those of the world
  pub talks_are : (number : ℕ) (sessions : List (Option Talk)) → All (IsTalkSound rule sites) sessions → sessions_shown number (map (option_map (talk_over sites)) sessions) ≡ talks_shown number sessions
  talks_are number [] all = refl
  talks_are number (None ∷ sessions) all = talks_are (number + 1) sessions (All-tail (IsTalkSound rule sites) None sessions all)
  talks_are number (Some talk ∷ sessions) all =
      ap₂ (λ (s : ShownSession) (ss : List ShownSession). s ∷ ss) (talk_is number talk (All-head (IsTalkSound rule sites) (Some talk) sessions all))
      (talks_are (number + 1) sessions (All-tail (IsTalkSound rule sites) (Some talk) sessions all))

-- the sessions of the code are shown as those of the world that it shows
pub shown_of : (sites : List SiteData) (sessions : List (Option Talk)) (w : WorldData) → IsStanding sites sessions → Shows sites sessions w → talks_shown 0 sessions ≡ sessions_shown 0 w.sessions
shown_of sites sessions w standing shows = sym (ap (sessions_shown 0) shows.sessions_are ∙ talks_are standing.schema.rule sites 0 sessions standing.sessions_are)

-- one more that was not started
pub none_more : (number : ℕ) (sessions : List (Option Talk)) → talks_shown number (sessions ++ None ∷ []) ≡ talks_shown number sessions
none_more number [] = refl
none_more number (None ∷ sessions) = none_more (number + 1) sessions
none_more number (Some talk ∷ sessions) = ap (λ (ss : List ShownSession). talk_shown number talk ∷ ss) (none_more (number + 1) sessions)

-- one more that was
pub talk_more : (number : ℕ) (sessions : List (Option Talk)) (talk : Talk) → talks_shown number (sessions ++ Some talk ∷ []) ≡ talks_shown number sessions ++ talk_shown (number + length sessions) talk ∷ []
talk_more number [] talk = ap (λ n. talk_shown n talk ∷ []) (sym (add-zero number))
talk_more number (None ∷ sessions) talk =
    let same : (number + 1) + length sessions ≡ number + suc (length sessions) = omega arith in
    talk_more (number + 1) sessions talk ∙ ap (λ n. talks_shown (number + 1) sessions ++ talk_shown n talk ∷ []) same
talk_more number (Some other ∷ sessions) talk =
    let same : (number + 1) + length sessions ≡ number + suc (length sessions) = omega arith in
    ap (λ (ss : List ShownSession). talk_shown number other ∷ ss)
    (talk_more (number + 1) sessions talk ∙ ap (λ n. talks_shown (number + 1) sessions ++ talk_shown n talk ∷ []) same)

module _ (sessions : List (Option Talk)) (i : ℕ) (item : Option Talk) (low : i < length sessions) (here : item ≡ get_or sessions i item) where
  front : take (i + 1) sessions ≡ take i sessions ++ item ∷ []
  front = take_more sessions i item low ∙ ap (λ (x : Option Talk). take i sessions ++ x ∷ []) (sym here)

  -- up to the next place, where none was started at this one
  pub none_next : (shown : List ShownSession) → item ≡ None → shown ≡ talks_shown 0 (take i sessions) → shown ≡ talks_shown 0 (take (i + 1) sessions)
  none_next shown is so_far = so_far ∙ sym (ap (talks_shown 0) (front ∙ ap (λ (x : Option Talk). take i sessions ++ x ∷ []) is) ∙ none_more 0 (take i sessions))

  -- and where one was
  pub talk_next : (shown : List ShownSession) (number : ℕ) (talk : Talk) (new : ShownSession) → item ≡ Some talk → number ≡ i → new ≡ talk_shown number talk → shown ≡ talks_shown 0 (take i sessions)
      → shown ++ new ∷ [] ≡ talks_shown 0 (take (i + 1) sessions)
  talk_next shown number talk new is at shows so_far =
      let many : length (take i sessions) ≡ i = length-take-le i sessions (omega arith) in
      let place : number ≡ 0 + length (take i sessions) = omega (arith, at, many) in
      let last = shows ∙ ap (λ n. talk_shown n talk) place in
      ap₂ (λ (ss : List ShownSession) (s : ShownSession). ss ++ s ∷ []) so_far last
      ∙ sym (ap (talks_shown 0) (front ∙ ap (λ (x : Option Talk). take i sessions ++ x ∷ []) is) ∙ talk_more 0 (take i sessions) talk)

-- ---- replicas

pub shown_more : (ask : Meaning) (sites : List SiteData) (shown : List ShownReplica) (site : SiteData) (replica : ShownReplica) → AreShownReplicas ask sites shown → IsShownReplica ask site replica
    → AreShownReplicas ask (sites ++ site ∷ []) (shown ++ replica ∷ [])
shown_more ask [] shown site replica are is = (replica, [], ap (λ (xs : List ShownReplica). xs ++ replica ∷ []) are, is, refl)
shown_more ask (first ∷ sites) shown site replica (here, others, are, h, t) is =
    (here, others ++ replica ∷ [], ap (λ (xs : List ShownReplica). xs ++ replica ∷ []) are, h, shown_more ask sites others site replica t is)

-- ---- tables

pub last_cases : {X : Type 0} (xs : List X) (y : X) (k : ℕ) (x : X) → slice_get (xs ++ y ∷ []) k ≡ Some x → (slice_get xs k ≡ Some x) ⊎ ((k ≡ length xs) × (y ≡ x))
last_cases [] y zero x is = inr (refl, cc)
last_cases [] y (suc k) x is = absurd cc
last_cases (z ∷ xs) y zero x is = inl is
last_cases (z ∷ xs) y (suc k) x is = elim (last_cases xs y k x is) [
  | inl before ↦ inl before
  | inr here ↦ inr (ap suc here.0, here.1)
]

pub no_rows : (rules : Rules) (nodes : List NodeData) → AreRowCounts rules nodes 0 []
no_rows rules nodes = record { tables = []; number = refl; rows = λ number rows is. absurd cc; counts_are = refl }

pub rows_more : (rules : Rules) (nodes : List NodeData) (upto : ℕ) (counts : List ℕ) (rows : List ShownRow) (count : ℕ) → AreRowCounts rules nodes upto counts → AreRowsIn rules nodes upto rows
    → count ≡ length rows → AreRowCounts rules nodes (upto + 1) (counts ++ count ∷ [])
rows_more rules nodes upto counts rows count are new is = record {
  tables = are.tables ++ rows ∷ [];
  number = length-append are.tables (rows ∷ []) ∙ ap (λ n. n + 1) are.number;
  rows = λ number others there. elim (last_cases are.tables rows number others there) [
    | inl before ↦ are.rows number others before
    | inr here ↦ subst (AreRowsIn rules nodes number) here.1 (subst (λ n. AreRowsIn rules nodes n rows) (sym (here.0 ∙ are.number)) new)
  ];
  counts_are = ap₂ (λ (xs : List ℕ) (n : ℕ). xs ++ n ∷ []) are.counts_are is ∙ sym (map-append length are.tables (rows ∷ []));
}

-- ---- a replica

-- what a store holds is counted, where it is that of a replica
pub counted : (ask : Meaning) (site : SiteData) (store : ReplicaState) (state : State) (heads : List UpdateId) (voids : List VoidLine) (counts : Counts) → store ≡ site.store
    → counts.updates ≡ length store.history.members
    → AreHeads (map entry_of store.history.members) heads → counts.heads ≡ length heads
    → IsStateOf (rules_with ask store.history.schema.tables) (nodes_of store.history.members) state
    → ((rules : Rules) (nodes : List NodeData) → IsStateOf rules nodes state → AreRowCounts rules nodes (length store.history.schema.tables) counts.rows.items)
    → ((rules : Rules) (nodes : List NodeData) → IsStateOf rules nodes state → AreVoidsIn rules nodes voids) → counts.voids ≡ length voids
    → AreCounts ask site counts
counted ask site store state heads voids counts same updates are_heads heads_are is rows voids_in voids_are =
    let rules = rules_with ask site.store.history.schema.tables in
    let nodes = nodes_of site.store.history.members in
    let here : IsStateOf rules nodes state =
    subst (λ (s : ReplicaState). IsStateOf (rules_with ask s.history.schema.tables) (nodes_of s.history.members) state) same is in
    let counted_rows = rows rules nodes here in
    record {
      updates = updates ∙ ap (λ (s : ReplicaState). length s.history.members) same;
      heads = heads;
      are_heads = subst (λ (s : ReplicaState). AreHeads (map entry_of s.history.members) heads) same are_heads;
      heads_are = heads_are;
      tables = counted_rows.tables;
      voids = voids;
      are_tables = record {
        number = counted_rows.number ∙ ap (λ (s : ReplicaState). length s.history.schema.tables) same;
        rows = counted_rows.rows;
        voids = voids_in rules nodes here;
      };
      rows_are = counted_rows.counts_are;
      voids_are = voids_are;
    }
