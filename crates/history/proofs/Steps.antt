-- What is kept, step by step: none, one more, and fewer.
use Rattle.std.proofs.Common.{◌≡◌, ℕ, ◌+◌, ◌≤◌, false, true, List, [], ◌∷◌, ◌++◌, length, map, reverse, take, drop, refl, sym, ◌∙◌, ap, subst, arith, All, Contains, Option, Some, slice_get, append-nil, append_assoc}
use Rattle.std.specs.Prelude.{Result, Ok, Err, IfOk, OnErr, OnOk}
use Rattle.std.specs.List.{AllByRecursion, filter_map, list_any}
use Rattle.std.proofs.lemmas.List.{length-map, length-take-le, take-append-drop, take-map, take-take, take_at}
use Rattle.std.proofs.lemmas.List.Elements.{All-contains, All-cons, All-head, All-nil, All-tail}
use Rattle.update_model.specs.declared.update_id.UpdateId.{UpdateId}
use Rattle.update_model.specs.Entry.{Entry}
use Rattle.update_model.specs.Graph.{has, is_within, IsClosed as IsClosedGraph}
use Rattle.update_model.specs.Node.{NodeData}
use Rattle.update_model.specs.Rule.{RuleData}
use Rattle.update_codec.specs.Parts.{entry_of, id_of, preds_of}
use Rattle.update_check.specs.Members.{AreMembers}
use Rattle.update_check.specs.Signed.{IsChecked, node_of}
use Rattle.update_check.proofs.Fronts.{members_front}
use Rattle.head_set.specs.Grown.{AreHeadsOfEach, KeepsHeads}
use Rattle.head_set.proofs.HeadSteps.{heads_of_front, never_heads, no_states}
use Rattle.schema.specs.Data.{Meaning, SchemaData}
use Rattle.table_model.specs.declared.verdict.Verdict.{Verdict}
use Rattle.table_model.specs.Verdicts.{judge_next, judged}
use Rattle.table_model.specs.Visible.{Rules, rules_with}
use Rattle.tuple_state.specs.State.{IsStateOf}
use Rattle.history.specs.Arrivals.{IsVerdictAt, nodes_before, place_in, places_before, places_of}
use Rattle.history.proofs.Arriving.{front_closed, length-before, take_front}
use Rattle.history.specs.declared.views.Views.{Views}
use Rattle.history.specs.Histories.{HistoryData, nodes_of}
use Rattle.history.specs.Kept.{AreViewsOf}
use Rattle.history.specs.Grown.{IsGrown}
use Rattle.history.proofs.Fronts.{entries_next, newer_nodes, next_member, nodes_split}

-- the history of a schema and members
abbrev pub history_of : SchemaData → List (List ℕ) → HistoryData
history_of schema members = record { schema = schema; members = members }

-- ---- none

pub views_none : (ask : Meaning) (schema : SchemaData) (members : List (List ℕ)) (views : Views) → views.heads ≡ [] → views.ancestry ≡ []
    → IsStateOf (rules_with ask schema.tables) [] views.tables → AreViewsOf ask schema members 0 views
unfolding places_of
views_none ask schema members views heads places state = record {
  heads = subst (AreHeadsOfEach []) (sym heads) no_states;
  places = places;
  state = state;
}

-- ---- one more

pub heads_count : (ask : Meaning) (schema : SchemaData) (members : List (List ℕ)) (i : ℕ) (views : Views) → i ≤ length members → AreViewsOf ask schema members i views → length views.heads ≡ i
heads_count ask schema members i views low are = are.heads.long ∙ length-map (take i members) entry_of ∙ length-take-le i members low

pub new_head : (ask : Meaning) (schema : SchemaData) (members : List (List ℕ)) (i : ℕ) (bytes : List ℕ) (views : Views) (id : UpdateId) → IsClosedGraph (map entry_of members)
    → slice_get members i ≡ Some bytes → id ≡ id_of bytes → AreViewsOf ask schema members i views → list_any (λ heads. has heads id) views.heads ≡ false
new_head ask schema members i bytes views id closed at same are =
    ap (λ (x : UpdateId). list_any (λ heads. has heads x) views.heads) same
    ∙ never_heads (map entry_of (take i members)) views.heads (entry_of bytes) are.heads (next_member members i bytes closed at)

pub views_taken : (ask : Meaning) (schema : SchemaData) (members : List (List ℕ)) (i : ℕ) (bytes : List ℕ) (old new : Views) (id : UpdateId) (preds : List UpdateId)
    → IsClosedGraph (map entry_of members) → slice_get members i ≡ Some bytes → id ≡ id_of bytes → preds ≡ preds_of bytes → AreViewsOf ask schema members i old
    → KeepsHeads old.heads id preds new.heads → new.ancestry ≡ places_before members (i + 1) → IsStateOf (rules_with ask schema.tables) (nodes_before members (i + 1)) new.tables
    → AreViewsOf ask schema members (i + 1) new
views_taken ask schema members i bytes old new id preds closed at ids names are keeps places state =
    let front = map entry_of (take i members) in
    let e : Entry = record { id = id; preds = preds; bytes = bytes } in
    let same : e ≡ entry_of bytes = λ k. record { id = ids k; preds = names k; bytes = bytes } in
    let next = next_member members i bytes closed at in
    let heads : AreHeadsOfEach (front ++ e ∷ []) new.heads = keeps front bytes (front_closed members i closed) are.heads (rw same next) in
    record {
      heads = subst (λ (l : List Entry). AreHeadsOfEach l new.heads) (ap (λ (x : Entry). front ++ x ∷ []) same ∙ sym (entries_next members i bytes at)) heads;
      places = places;
      state = state;
    }

-- ---- fewer

-- the places of nodes behind newer ones stand in front
pub behind : (place : UpdateId → Option ℕ) (newer older : List NodeData) → (more : List (List ℕ)) × (places_of place (newer ++ older) ≡ places_of place older ++ more)
unfolding places_of
behind place [] older = ([], sym (append-nil (places_of place older)))
behind place (n ∷ newer) older =
    let rest = behind place newer older in
    let own = filter_map place n.preds in (
      rest.0 ++ own ∷ [],
      ap (λ (l : List (List ℕ)). l ++ own ∷ []) rest.1 ∙ append_assoc (places_of place older) rest.0 (own ∷ []),
    )

pub places_cut : (members : List (List ℕ)) (count len : ℕ) → len ≤ count → count ≤ length members → take len (places_before members count) ≡ places_before members len
places_cut members count len low within =
    let more = behind (place_in members) (newer_nodes members count len) (nodes_before members len) in
    ap (λ (l : List NodeData). take len (places_of (place_in members) l)) (nodes_split members count len low)
    ∙ ap (take len) more.1
    ∙ take_at (places_before members len) more.0 len (length-before members len (omega arith))

pub views_cut : (ask : Meaning) (schema : SchemaData) (members : List (List ℕ)) (count len : ℕ) (old new : Views) → len ≤ count → count ≤ length members → AreViewsOf ask schema members count old
    → new.heads ≡ take len old.heads → new.ancestry ≡ take len old.ancestry → IsStateOf (rules_with ask schema.tables) (nodes_before members len) new.tables → AreViewsOf ask schema members len new
views_cut ask schema members count len old new low within are heads places state =
    let entries = map entry_of (take count members) in
    let many : length entries ≡ count = length-map (take count members) entry_of ∙ length-take-le count members within in
    let front : take len entries ≡ map entry_of (take len members) = take-map entry_of len (take count members) ∙ ap (map entry_of) (take-take len count members low) in
    let cut : AreHeadsOfEach (take len entries) (take len old.heads) = heads_of_front entries old.heads len are.heads (omega (arith, many)) in
    record {
      heads = subst (λ (l : List Entry). AreHeadsOfEach l new.heads) front (subst (AreHeadsOfEach (take len entries)) (sym heads) cut);
      places = places ∙ ap (take len) are.places ∙ places_cut members count len low within;
      state = state;
    }

-- ---- members

All-append : {X : Type 0} (P : X → Type 0) (xs ys : List X) → All P xs → All P ys → All P (xs ++ ys)
All-append P [] ys a b = b
All-append P (x ∷ xs) ys a b = All-cons P x (xs ++ ys) (All-head P x xs a) (All-append P xs ys (All-tail P x xs a) b)

all_of_batch : {X : Type 0} (P : X → Type 0) (batch added : List X) → All P batch → AllByRecursion (Contains batch) added → All P added
all_of_batch P batch [] all from = All-nil P
all_of_batch P batch (x ∷ xs) all from = All-cons P x xs (All-contains P batch x all from.0) (all_of_batch P batch xs all from.1)

-- what members of a batch are that were added to members
pub members_grown : (rule : RuleData) (before batch after : List (List ℕ)) → AreMembers rule before → All (IsChecked rule) batch → IsGrown before batch after
    → IsClosedGraph (map entry_of after) → is_within (map entry_of after) ≡ true → AreMembers rule after
members_grown rule before batch after members checked grown closed within = record {
  checked = subst (All (IsChecked rule)) (sym grown.1) (All-append (IsChecked rule) before grown.0 members.checked (all_of_batch (IsChecked rule) batch grown.0 checked grown.2));
  closed = closed;
  within = within;
}

pub members_cut : (rule : RuleData) (members : List (List ℕ)) (len : ℕ) → AreMembers rule members → AreMembers rule (take len members)
members_cut rule members len are = members_front rule (take len members) (drop len members) (subst (AreMembers rule) (sym (take-append-drop len members)) are)

-- one more, or as it was
pub members_pushed : {X E : Type 0} (r : Result X E) (rule : RuleData) (old new : List (List ℕ)) (bytes : List ℕ) → AreMembers rule (old ++ bytes ∷ []) → AreMembers rule old
    → OnOk r (new ≡ old ++ bytes ∷ []) → OnErr r (new ≡ old) → AreMembers rule new
members_pushed (Ok x) rule old new bytes more few pushed same = subst (AreMembers rule) (sym pushed) more
members_pushed (Err e) rule old new bytes more few pushed same = subst (AreMembers rule) (sym same) few

-- ---- answers of calls that add

pub same_history : {X E : Type 0} (r : Result X E) (schema : SchemaData) (new old : List (List ℕ)) → OnErr r (new ≡ old)
    → OnErr r (history_of schema new ≡ history_of schema old)
same_history (Ok x) schema new old same = tt
same_history (Err e) schema new old same = ap (history_of schema) same

pub pushed_history : {X E : Type 0} (r : Result X E) (schema : SchemaData) (new old : List (List ℕ)) → OnOk r (new ≡ old) → OnOk r (history_of schema new ≡ history_of schema old)
pushed_history (Ok x) schema new old same = ap (history_of schema) same
pushed_history (Err e) schema new old same = tt

last_member : (old : List (List ℕ)) (bytes : List ℕ) → slice_get (old ++ bytes ∷ []) (length old) ≡ Some bytes
last_member [] bytes = refl
last_member (x ∷ xs) bytes = last_member xs bytes

pub verdict_pushed : {E : Type 0} (r : Result Verdict E) (rules : Rules) (old new : List (List ℕ)) (bytes : List ℕ) → OnOk r (new ≡ old ++ bytes ∷ []) → IfOk r (IsVerdictAt rules new (length old))
    → IfOk r (λ v. v ≡ (judge_next rules (judged rules (nodes_of old)) (node_of bytes)).verdict)
verdict_pushed (Ok v) rules old new bytes pushed is =
    is bytes (ap (λ (l : List (List ℕ)). slice_get l (length old)) pushed ∙ last_member old bytes)
    ∙ ap (λ (l : List NodeData). (judge_next rules (judged rules l) (node_of bytes)).verdict)
    (ap (λ (l : List (List ℕ)). nodes_before l (length old)) pushed ∙ ap (λ (l : List (List ℕ)). reverse (map node_of l)) (take_front old (bytes ∷ [])))
verdict_pushed (Err e) rules old new bytes pushed is = tt
