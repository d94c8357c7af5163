-- What tables keep after one more update.
use Rattle.std.proofs.Common.{◌≡◌, ℕ, zero, suc, ◌+◌, ◌<◌, ◌≤◌, ◌==◌, true, not, ◌&&◌, List, [], ◌∷◌, ◌++◌, length, get_or, map, reverse, replicate, zero-add, refl, sym, ap, ◌∙◌, false, Option, Some, arith}
use Rattle.std.specs.Prelude.{count_by, is_some, slice_get}
use Rattle.std.specs.List.{list_all}
use Rattle.std.specs.BTreeMap.{get, BTreeMap}
use Rattle.std.proofs.lemmas.Bool.{and_parts}
use Rattle.std.proofs.lemmas.List.{length-map, length-reverse, map-append}
use Rattle.update_model.specs.declared.op.Op.{Op}
use Rattle.update_model.specs.declared.op.Op.TheVariants.{Insert, Delete}
use Rattle.update_model.specs.declared.row_name.RowName.{RowName}
use Rattle.update_model.specs.declared.limits.TheConstants.{MAX_MEMBERS}
use Rattle.update_model.specs.Node.{IsNode, NodeData}
use Rattle.table_model.specs.declared.verdict.Verdict.{Verdict}
use Rattle.table_model.specs.declared.verdict.Verdict.TheVariants as verdict
use Rattle.table_model.specs.Tables.{name_cmp}
use Rattle.table_model.specs.Verdicts.{effects_after, effects_in, effects_of, nothing, row_inserted}
use Rattle.table_model.specs.Visible.{Effects, Rules, same_row, table_of}
use Rattle.table_model.proofs.Order.{any_weaker}
use Rattle.table_model.proofs.Founded.{all_weaker, erasable, founded_closed}
use Rattle.tuple_state.specs.declared.dropped.Dropped.{Dropped}
use Rattle.tuple_state.specs.declared.groups.Groups.{Groups}
use Rattle.tuple_state.specs.declared.inserted.Inserted.{Inserted}
use Rattle.tuple_state.specs.Grouped.{AreGroupsOf}
use Rattle.tuple_state.specs.Kept.{IsKept, are_layered, deletes_at, is_named, pairs_of, place_of}
use Rattle.tuple_state.specs.Causes.{AreRising, absent_times, ends_from, parents_from}
use Rattle.tuple_state.specs.Least.{AreGrouped, AreLevel, AreSettled, is_free}
use Rattle.tuple_state.specs.Links.{Linked, are_inside, is_of}
use Rattle.tuple_state.specs.declared.links.Link.{Link}
use Rattle.tuple_state.specs.Past.{IsNextVerdict}
use Rattle.tuple_state.specs.State.{IsStateOf, State, after, done_in, dropped_at, inserted_at, keep_any, rules_of_state, state_of}
use Rattle.tuple_state.proofs.Adding.{NamesRise, all_rise, names_found, news_rise, parents-append, rising_inside, rising_links}
use Rattle.tuple_state.proofs.Fronts.{bounded_next, dated_next}
use Rattle.tuple_state.proofs.Deleting.{deleted_next, drops_found, links_inside}
use Rattle.tuple_state.proofs.Effects.{count_is}
use Rattle.tuple_state.proofs.Layers.{layered_founded, same_layered}
use Rattle.tuple_state.proofs.Leasts.{passed_low, plain_passed}
use Rattle.tuple_state.proofs.Levels.{level_now}
use Rattle.tuple_state.proofs.Lookups.{shapes_same, did_same, row_found}
use Rattle.tuple_state.proofs.Spans.{ends-append}

pub state_next : (state : State) (node : NodeData) (v : Verdict) → (next : IsNextVerdict state node v) → IsStateOf next.rules (node ∷ next.nodes) (after state node v)
unfolding state_of
state_next state node v next = record { tables = next.is.tables; closed = (next.next, next.is.closed); is = λ i. after (next.is.is i) node (next.judged i) }

-- the rows of a state are layered
pub layered_now : (rules : Rules) (nodes : List NodeData) (state : State) → IsStateOf rules nodes state → are_layered (rules_of_state state) (done_in state).inserted ≡ true
layered_now rules nodes state held =
    same_layered (shapes_same rules nodes state held) (done_in state).inserted ∙ ap (λ (g : Effects). are_layered rules g.inserted) (did_same rules nodes state held)
    ∙ layered_founded rules (effects_in rules nodes).inserted (founded_closed rules nodes held.closed).founded

-- what is deleted was inserted
pub homed_now : (rules : Rules) (nodes : List NodeData) (state : State) → IsStateOf rules nodes state → list_all (is_named (done_in state).inserted) (done_in state).deleted ≡ true
homed_now rules nodes state held =
    ap (λ (g : Effects). list_all (is_named g.inserted) g.deleted) (did_same rules nodes state held)
    ∙ all_weaker (erasable rules (effects_in rules nodes).inserted) (is_named (effects_in rules nodes).inserted)
    (λ name h. any_weaker (λ row. same_row row.name name && (table_of rules row.table).deletable) (λ row. same_row row.name name) (λ row k. (and_parts _ _ k).0) (effects_in rules nodes).inserted h)
    (effects_in rules nodes).deleted (founded_closed rules nodes held.closed).erased

few_inserted : (node : NodeData) (number : ℕ) (did : Effects) (ops : List Op) → length (effects_after node number did ops).inserted ≤ length did.inserted + length ops
few_inserted node number did [] = omega arith
few_inserted node number did (Insert table values ∷ ops) =
    let rest = few_inserted node (number + 1) (record did { inserted = row_inserted node number table values ∷ did.inserted }) ops in omega (arith, rest)
few_inserted node number did (Delete name ∷ ops) = let rest = few_inserted node (number + 1) (record did { deleted = name ∷ did.deleted }) ops in omega (arith, rest)

pub count_next : (state : State) (node : NodeData) (v : Verdict) → IsNextVerdict state node v → state.count < MAX_MEMBERS
count_next state node v next = let c = ap (λ (s : State). s.count) next.is.is ∙ count_is next.rules next.nodes in omega (arith, c, next.few)

padded : (xs : List ℕ) (m k : ℕ) → get_or (xs ++ replicate m 0) k 0 ≡ get_or xs k 0
padded [] zero k = refl
padded [] (suc m) zero = refl
padded [] (suc m) (suc k) = padded [] m k
padded (x ∷ xs) m zero = refl
padded (x ∷ xs) m (suc k) = padded xs m k

-- the rows that a valid update inserts, and the names that it deletes
abbrev pub news_of : State → NodeData → List Inserted
news_of state node = map (inserted_at state.count) (reverse (effects_of node).inserted)

abbrev pub drops_of : State → NodeData → List Dropped
drops_of state node = map (dropped_at state.count) (reverse (effects_of node).deleted)

module _ {state : State} {node : NodeData} {places : BTreeMap RowName ℕ} {causes : List ℕ} {children deleters : Linked} {ends : List ℕ} {groups : Groups} (kept : IsKept state places causes children deleters ends groups) (next : IsNextVerdict state node verdict.Valid) where
  abbrev news : List Inserted
  news = news_of state node

  abbrev drops : List Dropped
  drops = drops_of state node

  pub layered_next : are_layered (rules_of_state state) (done_in (after state node verdict.Valid)).inserted ≡ true
  layered_next = layered_now next.rules (node ∷ next.nodes) (after state node verdict.Valid) (state_next state node verdict.Valid next)

  count_few : state.count < MAX_MEMBERS
  count_few = let c = ap (λ (s : State). s.count) next.is.is ∙ count_is next.rules next.nodes in omega (arith, c, next.few)

  pub news_few : IsNode node → length news ≤ 256
  news_few small =
      let a = length-map (reverse (effects_of node).inserted) (inserted_at state.count) in
      let b = length-reverse (effects_of node).inserted in
      let f = few_inserted node 0 nothing node.ops in
      omega (arith, a, b, f, small)

  -- what it deletes is there
  pub drops_there : list_all (λ (d : Dropped). is_some (place_of (state.inserted ++ news) d.name)) drops ≡ true
  drops_there = drops_found (state.inserted ++ news) state.dropped drops (homed_now next.rules (node ∷ next.nodes) (after state node verdict.Valid) (state_next state node verdict.Valid next))

  abbrev whole : List Inserted
  whole = state.inserted ++ news

  -- the names that the new rows name
  abbrev parents : List Dropped
  parents = parents_from (rules_of_state state) (length state.inserted) news

  parents_rise : NamesRise (place_of whole) (length state.inserted) (length whole) parents
  parents_rise = news_rise state.shapes state.inserted news layered_next

  pub parents_found : list_all (λ (d : Dropped). is_some (place_of whole d.name)) parents ≡ true
  parents_found = names_found (place_of whole) (length state.inserted) (length whole) parents parents_rise

  pub known_rising : AreRising 0 (length state.inserted) children.links
  known_rising = rising_links (place_of state.inserted) 0 (length state.inserted) children.links (parents_from (rules_of_state state) 0 state.inserted) kept.named (all_rise state.shapes state.inserted kept.layered)

  pub known_inside : are_inside (length state.inserted) children.links ≡ true
  known_inside = rising_inside 0 (length state.inserted) children.links known_rising

  -- the counts with those of the new rows, which are 0 at first
  padded_absent : (m k : ℕ) → absent_times children.links causes k ≡ absent_times children.links (causes ++ replicate m 0) k
  padded_absent m k = λ i. count_by (λ (link : Link). not (sym (padded causes m link.place) i == 0) && (link.number == k)) children.links

  pub padded_counts : keep_any state.shapes ≡ false → (m k : ℕ) → get_or (causes ++ replicate m 0) k 0 ≡ count_by (is_of k) deleters.links + absent_times children.links (causes ++ replicate m 0) k
  padded_counts plain m k =
      let a = padded causes m k in
      let b = kept.counted k in
      let c = plain_passed state.shapes state.inserted (is_free (λ n. count_by (is_of n) deleters.links) children.links causes) plain (slice_get state.inserted k) in
      let d = padded_absent m k in
      omega (arith, a, b, c, d)

  pub padded_few : (m k : ℕ) → get_or (causes ++ replicate m 0) k 0 ≤ count_by (is_of k) deleters.links + absent_times children.links (causes ++ replicate m 0) k + 1
  padded_few m k =
      let a = padded causes m k in
      let b = kept.counted k in
      let c = passed_low state.shapes state.inserted (is_free (λ n. count_by (is_of n) deleters.links) children.links causes) (slice_get state.inserted k) in
      let d = padded_absent m k in
      omega (arith, a, b, c, d)

  -- there are as many links as names
  pub links_len : length children.links ≡ length (parents_from (rules_of_state state) 0 state.inserted)
  links_len =
      let a = ap length kept.named in
      let b = length-map {B = Option ℕ × ℕ} children.links (λ (link : Link). (Some link.place, link.number)) in
      let c = length-map {B = Option ℕ × ℕ} (parents_from (rules_of_state state) 0 state.inserted) (λ (d : Dropped). (place_of state.inserted d.name, d.position)) in
      omega (arith, a, b, c)

  pub ended_next : (more_ends : List ℕ) → more_ends ≡ ends_from (rules_of_state state) (length (parents_from (rules_of_state state) 0 state.inserted)) news → ends ++ more_ends ≡ ends_from (rules_of_state state) 0 whole
  ended_next more_ends so =
      let from = sym (zero-add (length (parents_from (rules_of_state state) 0 state.inserted))) in
      (λ i. kept.ended i ++ (so ∙ ap (λ n. ends_from (rules_of_state state) n news) from) i) ∙ sym (ends-append (rules_of_state state) 0 0 state.inserted news)

  module _ (refs : List Link) (refs_are : pairs_of refs ≡ deletes_at (place_of whole) parents) where
    pub named_next : pairs_of (children.links ++ refs) ≡ deletes_at (place_of whole) (parents_from (rules_of_state state) 0 whole)
    named_next =
        deleted_next state.inserted news (parents_from (rules_of_state state) 0 state.inserted) parents children.links (children.links ++ refs) kept.named
        (map-append (λ (l : Link). (Some l.place, l.number)) children.links refs ∙ ap (λ l. pairs_of children.links ++ l) refs_are)
        ∙ ap (deletes_at (place_of whole)) (ap (λ n. parents_from (rules_of_state state) 0 state.inserted ++ parents_from (rules_of_state state) n news) (sym (zero-add (length state.inserted))) ∙ sym (parents-append (rules_of_state state) 0 state.inserted news))

    pub rising_next : AreRising 0 (length whole) (children.links ++ refs)
    rising_next = rising_links (place_of whole) 0 (length whole) (children.links ++ refs) (parents_from (rules_of_state state) 0 whole) named_next (all_rise state.shapes whole layered_next)

    -- each row rests on the rows that it names
    pub level_next : AreLevel state.shapes whole (children.links ++ refs)
    level_next = level_now next.rules (node ∷ next.nodes) (after state node verdict.Valid) (state_next state node verdict.Valid next) layered_next (children.links ++ refs) named_next

    pub refs_rising : AreRising (length state.inserted) (length whole) refs
    refs_rising = rising_links (place_of whole) (length state.inserted) (length whole) refs parents refs_are parents_rise

    -- its deletions are of rows that are there
    pub deleters_next : (names : List Link) → pairs_of names ≡ deletes_at (place_of whole) drops → are_inside (length whole) (deleters.links ++ names) ≡ true
    deleters_next names names_are =
        links_inside (place_of whole) (length whole) (deleters.links ++ names) (state.dropped ++ drops)
        (deleted_next state.inserted news state.dropped drops deleters.links (deleters.links ++ names) kept.deleted
        (map-append (λ (l : Link). (Some l.place, l.number)) deleters.links names ∙ ap (λ l. pairs_of deleters.links ++ l) names_are))
        (λ name k found. (row_found whole name k found).below)

    -- what is kept after a valid update
    pub kept_next : IsNode node → (after_places : BTreeMap RowName ℕ) (size : ℕ) (after_causes more_ends : List ℕ) (after_groups : Groups) (names : List Link)
        → ((name : RowName) → get name_cmp after_places name ≡ place_of whole name) → pairs_of names ≡ deletes_at (place_of whole) drops → more_ends ≡ ends_from (rules_of_state state) (length (parents_from (rules_of_state state) 0 state.inserted)) news → size ≡ length whole → length after_causes ≡ length whole
        → length (children.links ++ refs) ≤ 536870912 → length (deleters.links ++ names) ≤ 536870912
        → AreSettled state.shapes whole (children.links ++ refs) (λ k. count_by (is_of k) (deleters.links ++ names)) after_causes
        → AreGroupsOf state.shapes whole after_groups
        → IsKept (after state node verdict.Valid) after_places after_causes (record { size = size; links = children.links ++ refs }) (record { size = size; links = deleters.links ++ names }) (ends ++ more_ends) after_groups
    kept_next small after_places size after_causes more_ends after_groups names placed names_are ended sized len few_children few_deleters counts grouped = record {
      held = record { rules = next.rules; nodes = node ∷ next.nodes; is = state_next state node verdict.Valid next };
      few = omega (arith, count_few);
      bounded = λ len. bounded_next state.inserted (reverse (effects_of node).inserted) state.count len kept.dated kept.bounded (news_few small);
      dated = dated_next state.inserted (reverse (effects_of node).inserted) state.count kept.dated;
      layered = layered_next;
      placed = placed;
      each = len;
      counted = counts;
      grouped = grouped;
      homes = sized;
      named = named_next;
      ended = ended_next more_ends ended;
      rooms = sized;
      few_children = few_children;
      few_deleters = few_deleters;
      deleted = deleted_next state.inserted news state.dropped drops deleters.links (deleters.links ++ names) kept.deleted
          (map-append (λ (l : Link). (Some l.place, l.number)) deleters.links names ∙ ap (λ l. pairs_of deleters.links ++ l) names_are);
    }
