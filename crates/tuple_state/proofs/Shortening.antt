-- What tables keep after the later updates are taken back.
use Rattle.std.proofs.Common.{◌≡◌, ℕ, zero, suc, ◌+◌, ◌-◌, ◌<◌, ◌≤◌, true, false, cond, not, List, [], ◌∷◌, ◌++◌, length, map, reverse, take, drop, refl, sym, ap, ◌∙◌, subst, length-append, zero-add, Option, Some, None, nat_lt, arith}
use Rattle.std.specs.Prelude.{count_by, is_some, slice_get}
use Rattle.std.specs.List.{list_all}
use Rattle.std.specs.BTreeMap.{get, BTreeMap}
use Rattle.std.proofs.lemmas.Bool.{and_from, and_parts}
use Rattle.std.proofs.lemmas.Bool.Decides.{nat_tests}
use Rattle.std.proofs.lemmas.List.Sums.{sum_by-cons}
use Rattle.std.proofs.lemmas.List.{take-map}
use Rattle.update_model.specs.declared.row_name.RowName.{RowName}
use Rattle.update_model.specs.declared.limits.TheConstants.{MAX_MEMBERS}
use Rattle.table_model.specs.Tables.{name_cmp}
use Rattle.tuple_state.specs.declared.dropped.Dropped.{Dropped}
use Rattle.tuple_state.specs.declared.groups.Groups.{Groups}
use Rattle.tuple_state.specs.declared.inserted.Inserted.{Inserted}
use Rattle.tuple_state.specs.declared.links.Link.{Link}
use Rattle.tuple_state.specs.declared.voided.Voided.{Voided}
use Rattle.tuple_state.specs.Grouped.{AreGroupsOf}
use Rattle.tuple_state.specs.Kept.{IsKept, are_layered, deletes_at, pairs_of, place_of}
use Rattle.tuple_state.specs.Causes.{AreRising, absent_times, ends_from, parents_from}
use Rattle.tuple_state.specs.Least.{AreGrouped, AreLevel, AreSettled, is_free, passed_by}
use Rattle.tuple_state.specs.Links.{Linked, are_inside, is_of}
use Rattle.tuple_state.specs.State.{IsCut, IsHeld, IsStateOf, State, done_in, keep_any, row_of, rules_of_state, rules_over, state_of}
use Rattle.tuple_state.proofs.Adding.{NamesRise, all_rise, names_found, news_rise, parents-append, rising_inside, rising_links}
use Rattle.tuple_state.proofs.Deleting.{drops_found, links_inside, pair_parts, place_stays}
use Rattle.tuple_state.proofs.Effects.{shapes_are, count_is}
use Rattle.tuple_state.proofs.Fronts.{Parted, closed_back, count_append, counted, names_parted, rows_parted, sooner, take_front, voids_parted}
use Rattle.tuple_state.proofs.Keeping.{homed_now, layered_now}
use Rattle.tuple_state.proofs.Levels.{level_now}
use Rattle.tuple_state.proofs.Lookups.{row_found}
use Rattle.tuple_state.proofs.Raising.{unit}
use Rattle.tuple_state.proofs.Spans.{ends-take}

-- ---- the rest stays

pub kept_places : {state : State} {places : BTreeMap RowName ℕ} (after_places : BTreeMap RowName ℕ) {causes : List ℕ} {children after_children deleters after_deleters : Linked} {ends : List ℕ} {groups : Groups} (after_groups : Groups) → IsKept state places causes children deleters ends groups → AreGroupsOf state.shapes state.inserted after_groups
    → ((name : RowName) → get name_cmp after_places name ≡ place_of state.inserted name) → after_children ≡ children → after_deleters ≡ deleters → IsKept state after_places causes after_children after_deleters ends after_groups
kept_places {state} after_places {causes} after_groups kept grouped placed alike same = record {
  held = kept.held;
  few = kept.few;
  bounded = kept.bounded;
  dated = kept.dated;
  layered = kept.layered;
  placed = placed;
  each = kept.each;
  counted = λ k.
      kept.counted k
      ∙ (λ i. (count_by (is_of k) (sym same i).links + absent_times (sym alike i).links causes k)
      + passed_by state.shapes state.inserted (is_free (λ n. count_by (is_of n) (sym same i).links) (sym alike i).links causes) (slice_get state.inserted k));
  grouped = grouped;
  homes = ap (λ (d : Linked). d.size) alike ∙ kept.homes;
  named = ap (λ (d : Linked). pairs_of d.links) alike ∙ kept.named;
  ended = kept.ended;
  rooms = ap (λ (d : Linked). d.size) same ∙ kept.rooms;
  few_children = let l = ap (λ (d : Linked). length d.links) alike in omega (arith, l, kept.few_children);
  few_deleters = let l = ap (λ (d : Linked). length d.links) same in omega (arith, l, kept.few_deleters);
  deleted = ap (λ (d : Linked). pairs_of d.links) same ∙ kept.deleted;
}

pub kept_void : (state : State) (places : BTreeMap RowName ℕ) (causes : List ℕ) (children deleters : Linked) (ends : List ℕ) (groups : Groups) (voids : List Voided) → IsKept state places causes children deleters ends groups → state.count < MAX_MEMBERS
    → IsHeld (record state { count = state.count + 1; voids = voids }) → IsKept (record state { count = state.count + 1; voids = voids }) places causes children deleters ends groups
kept_void state places causes children deleters ends groups voids kept few held = record {
  held = held;
  few = omega (arith, few);
  bounded = kept.bounded;
  dated = sooner (λ (it : Inserted). it.position) state.count (state.count + 1) (omega arith) state.inserted kept.dated;
  layered = kept.layered;
  placed = kept.placed;
  each = kept.each;
  counted = kept.counted;
  grouped = kept.grouped;
  homes = kept.homes;
  named = kept.named;
  ended = kept.ended;
  rooms = kept.rooms;
  few_children = kept.few_children;
  few_deleters = kept.few_deleters;
  deleted = kept.deleted;
}

-- ---- the links of the first rows

-- links are counted by the numbers of their names
numbers_alike : (place : RowName → Option ℕ) (n : ℕ) (links : List Link) (names : List Dropped) → pairs_of links ≡ deletes_at place names → count_by (λ (l : Link). nat_lt l.number n) links ≡ count_by (λ (d : Dropped). nat_lt d.position n) names
numbers_alike place n [] [] h = refl
numbers_alike place n [] (d ∷ names) h = absurd (cc)
numbers_alike place n (link ∷ links) [] h = absurd (cc)
numbers_alike place n (link ∷ links) (d ∷ names) h =
    let pair = pair_parts place link d links names h in
    sum_by-cons (λ (l : Link). cond (nat_lt l.number n) 1 0) link links
    ∙ (λ i. unit (nat_lt (pair.number i) n) + numbers_alike place n links names pair.rest i)
    ∙ sym (sum_by-cons (λ (x : Dropped). cond (nat_lt x.position n) 1 0) d names)

rise_below : (place : RowName → Option ℕ) (low high : ℕ) (names : List Dropped) → NamesRise place low high names → list_all (λ (d : Dropped). nat_lt d.position high) names ≡ true
rise_below place low high [] rise = refl
rise_below place low high (d ∷ names) rise = let lt = rise.0.below in and_from _ _ (grind (arith, nat_tests)) (rise_below place d.position high names rise.1)

rise_beyond : (place : RowName → Option ℕ) (least low high : ℕ) (names : List Dropped) → least ≤ low → NamesRise place low high names → list_all (λ (d : Dropped). not (nat_lt d.position least)) names ≡ true
rise_beyond place least low high [] le rise = refl
rise_beyond place least low high (d ∷ names) le rise =
    let lt = rise.0.least in
    let far : nat_lt d.position least ≡ false = grind (arith, nat_tests) in
    and_from _ _ (ap not far) (rise_beyond place least d.position high names (omega (arith, le, lt)) rise.1)

-- ---- the state of the older nodes

all_of : {X : Type 0} (xs : List X) → take (length xs) xs ≡ xs
all_of [] = refl
all_of (x ∷ xs) = ap (λ l. x ∷ l) (all_of xs)

pub parts_back : {X : Type 0} (n : ℕ) (xs : List X) → n ≤ length xs → take n xs ++ take (length xs - n) (drop n xs) ≡ xs
parts_back zero [] h = refl
parts_back zero (x ∷ xs) h = let whole : length (x ∷ xs) - 0 ≡ length (x ∷ xs) = omega arith in ap (λ n. take n (x ∷ xs)) whole ∙ all_of (x ∷ xs)
parts_back (suc n) [] h = absurd (omega (arith, h))
parts_back (suc n) (x ∷ xs) h =
    let same : length (x ∷ xs) - suc n ≡ length xs - n = omega arith in
    ap (λ m. x ∷ (take n xs ++ take m (drop n xs))) same ∙ ap (λ l. x ∷ l) (parts_back n xs (omega (arith, h)))

some_same : (front later : List Inserted) (name : RowName) → is_some (place_of front name) ≡ true → place_of (front ++ later) name ≡ place_of front name
some_same front later name h =
    let step : (o : Option ℕ) → place_of front name ≡ o → is_some o ≡ true → place_of (front ++ later) name ≡ o =
    elim [ None ↦ λ e s. absurd (cc) | Some k ↦ λ e s. place_stays front later name k e ] in
    step (place_of front name) refl h

deletes_same : (front later : List Inserted) (names : List Dropped) → list_all (λ (d : Dropped). is_some (place_of front d.name)) names ≡ true → deletes_at (place_of (front ++ later)) names ≡ deletes_at (place_of front) names
deletes_same front later [] h = refl
deletes_same front later (d ∷ names) h =
    let parts = and_parts (is_some (place_of front d.name)) _ h in
    λ i. (some_same front later d.name parts.0 i, d.position) ∷ deletes_same front later names parts.1 i

pub take_fewer : {X : Type 0} (n : ℕ) (xs : List X) → length (take n xs) ≤ length xs
take_fewer zero xs = omega arith
take_fewer (suc n) [] = omega arith
take_fewer (suc n) (x ∷ xs) = let rest = take_fewer n xs in omega (arith, rest)

module _ {state : State} {len : ℕ} (whole : IsCut state len) where
  open whole use {rules, newer, older, is as held, at}

  abbrev pub old : State
  old = state_of rules older

  pub old_held : IsStateOf rules older old
  old_held = record { tables = held.tables; closed = closed_back newer older held.closed; is = refl }

  rows_are : Parted (λ (it : Inserted). it.position) len state.inserted old.inserted
  rows_are = subst (λ (n : ℕ). Parted (λ (it : Inserted). it.position) n state.inserted old.inserted) at
      (subst (λ (s : State). Parted (λ (it : Inserted). it.position) (length older) s.inserted old.inserted) (sym held.is) (rows_parted rules newer older))

  names_are : Parted (λ (it : Dropped). it.position) len state.dropped old.dropped
  names_are = subst (λ (n : ℕ). Parted (λ (it : Dropped). it.position) n state.dropped old.dropped) at
      (subst (λ (s : State). Parted (λ (it : Dropped). it.position) (length older) s.dropped old.dropped) (sym held.is) (names_parted rules newer older))

  voids_are : Parted (λ (it : Voided). it.position) len state.voids old.voids
  voids_are = subst (λ (n : ℕ). Parted (λ (it : Voided). it.position) n state.voids old.voids) at
      (subst (λ (s : State). Parted (λ (it : Voided). it.position) (length older) s.voids old.voids) (sym held.is) (voids_parted rules newer older))

  pub rows_len : (n : ℕ) → n ≡ count_by (λ (it : Inserted). nat_lt it.position len) state.inserted → n ≡ length old.inserted
  rows_len n is = is ∙ counted (λ (it : Inserted). it.position) len state.inserted old.inserted rows_are

  pub rows_few : (n : ℕ) → n ≡ count_by (λ (it : Inserted). nat_lt it.position len) state.inserted → n ≤ length state.inserted
  rows_few n is = let a = rows_len n is in let b = ap length rows_are.is in let c = length-append old.inserted rows_are.later in omega (arith, a, b, c)

  pub rows_taken : (n : ℕ) → n ≡ count_by (λ (it : Inserted). nat_lt it.position len) state.inserted → take n state.inserted ≡ old.inserted
  rows_taken n is = (λ i. take (rows_len n is i) (rows_are.is i)) ∙ take_front old.inserted rows_are.later

  pub names_taken : (n : ℕ) → n ≡ count_by (λ (it : Dropped). nat_lt it.position len) state.dropped → take n state.dropped ≡ old.dropped
  names_taken n is = (λ i. take ((is ∙ counted (λ (it : Dropped). it.position) len state.dropped old.dropped names_are) i) (names_are.is i)) ∙ take_front old.dropped names_are.later

  pub voids_taken : (n : ℕ) → n ≡ count_by (λ (it : Voided). nat_lt it.position len) state.voids → take n state.voids ≡ old.voids
  voids_taken n is = (λ i. take ((is ∙ counted (λ (it : Voided). it.position) len state.voids old.voids voids_are) i) (voids_are.is i)) ∙ take_front old.voids voids_are.later

  pub shapes_stay : state.shapes ≡ old.shapes
  shapes_stay = ap (λ (s : State). s.shapes) held.is ∙ shapes_are rules (newer ++ older) ∙ sym (shapes_are rules older)

  pub count_old : len ≡ old.count
  count_old = sym at ∙ sym (count_is rules older)

  pub layered_old : are_layered (rules_of_state old) (done_in old).inserted ≡ true
  layered_old = layered_now rules older old old_held

  pub deleted_old : (n : ℕ) (links : List Link) → n ≡ count_by (λ (it : Dropped). nat_lt it.position len) state.dropped → pairs_of links ≡ deletes_at (place_of state.inserted) state.dropped
      → pairs_of (take n links) ≡ deletes_at (place_of old.inserted) old.dropped
  deleted_old n links is so =
      sym (take-map (λ (l : Link). (Some l.place, l.number)) n links) ∙ ap (take n) so ∙ take-map (λ (d : Dropped). (place_of state.inserted d.name, d.position)) n state.dropped
      ∙ ap (deletes_at (place_of state.inserted)) (names_taken n is) ∙ ap (λ l. deletes_at (place_of l) old.dropped) rows_are.is
      ∙ deletes_same old.inserted rows_are.later old.dropped (drops_found old.inserted [] old.dropped (homed_now rules older old old_held))

  pub inside_old : (rows n : ℕ) (links : List Link) → rows ≡ count_by (λ (it : Inserted). nat_lt it.position len) state.inserted → n ≡ count_by (λ (it : Dropped). nat_lt it.position len) state.dropped
      → pairs_of links ≡ deletes_at (place_of state.inserted) state.dropped → are_inside rows (take n links) ≡ true
  inside_old rows n links is drops so =
      links_inside (place_of old.inserted) rows (take n links) old.dropped (deleted_old n links drops so)
      (λ name k found. let row = row_found old.inserted name k found in let size = rows_len rows is in omega (arith, row.below, size))

  abbrev front : List Dropped
  front = parents_from (rules_of_state old) 0 old.inserted

  abbrev behind : List Dropped
  behind = parents_from (rules_of_state state) (length old.inserted) rows_are.later

  front_rises : NamesRise (place_of old.inserted) 0 (length old.inserted) front
  front_rises = all_rise old.shapes old.inserted layered_old

  -- the names that all rows name are those that the first rows name, and others
  fronts_are : Parted (λ (d : Dropped). d.position) (length old.inserted) (parents_from (rules_of_state state) 0 state.inserted) front
  fronts_are = record {
    later = behind;
    is = ap (parents_from (rules_of_state state) 0) rows_are.is ∙ parents-append (rules_of_state state) 0 old.inserted rows_are.later
        ∙ (λ i. parents_from (rules_over (shapes_stay i)) 0 old.inserted ++ parents_from (rules_of_state state) (zero-add (length old.inserted) i) rows_are.later);
    before = rise_below (place_of old.inserted) 0 (length old.inserted) front front_rises;
    beyond = rise_beyond (place_of (old.inserted ++ rows_are.later)) (length old.inserted) (length old.inserted) (length (old.inserted ++ rows_are.later)) behind (omega arith)
        (news_rise state.shapes old.inserted rows_are.later (subst (λ (l : List Inserted). are_layered (rules_of_state state) (reverse (map row_of l)) ≡ true) rows_are.is (layered_now rules (newer ++ older) state held)));
  }

  module _ (children : List Link) (rows n : ℕ) (so : pairs_of children ≡ deletes_at (place_of state.inserted) (parents_from (rules_of_state state) 0 state.inserted))
      (is_rows : rows ≡ count_by (λ (it : Inserted). nat_lt it.position len) state.inserted) (is_n : n ≡ count_by (λ (l : Link). nat_lt l.number rows) children) where
    front_len : n ≡ length front
    front_len =
        is_n ∙ ap (λ m. count_by (λ (l : Link). nat_lt l.number m) children) (rows_len rows is_rows) ∙ numbers_alike (place_of state.inserted) (length old.inserted) children (parents_from (rules_of_state state) 0 state.inserted) so
        ∙ counted (λ (d : Dropped). d.position) (length old.inserted) (parents_from (rules_of_state state) 0 state.inserted) front fronts_are

    pub named_old : pairs_of (take n children) ≡ deletes_at (place_of old.inserted) front
    unfolding fronts_are
    named_old =
        sym (take-map (λ (l : Link). (Some l.place, l.number)) n children) ∙ ap (take n) so ∙ take-map (λ (d : Dropped). (place_of state.inserted d.name, d.position)) n (parents_from (rules_of_state state) 0 state.inserted)
        ∙ (λ i. deletes_at (place_of state.inserted) (take (front_len i) (fronts_are.is i))) ∙ ap (deletes_at (place_of state.inserted)) (take_front front behind)
        ∙ ap (λ l. deletes_at (place_of l) front) rows_are.is ∙ deletes_same old.inserted rows_are.later front (names_found (place_of old.inserted) 0 (length old.inserted) front front_rises)

    pub rising_old : AreRising 0 rows (take n children)
    rising_old = subst (λ m. AreRising 0 m (take n children)) (sym (rows_len rows is_rows)) (rising_links (place_of old.inserted) 0 (length old.inserted) (take n children) front named_old front_rises)

    pub level_old : AreLevel old.shapes old.inserted (take n children)
    level_old = level_now rules older old old_held layered_old (take n children) named_old

    pub children_inside : are_inside rows (take n children) ≡ true
    children_inside = rising_inside 0 rows (take n children) rising_old

  pub ended_old : (rows : ℕ) (ends : List ℕ) → ends ≡ ends_from (rules_of_state state) 0 state.inserted → rows ≡ count_by (λ (it : Inserted). nat_lt it.position len) state.inserted → take rows ends ≡ ends_from (rules_of_state old) 0 old.inserted
  ended_old rows ends ended is =
      ap (take rows) ended ∙ ends-take (rules_of_state state) 0 rows state.inserted
      ∙ (λ i. ends_from (rules_over (shapes_stay i)) 0 (rows_taken rows is i))

  pub kept_old : (places after_places : BTreeMap RowName ℕ) (causes after_causes : List ℕ) (children deleters : Linked) (ends : List ℕ) (groups after_groups : Groups) (rows names n : ℕ) → IsKept state places causes children deleters ends groups
      → rows ≡ count_by (λ (it : Inserted). nat_lt it.position len) state.inserted → names ≡ count_by (λ (it : Dropped). nat_lt it.position len) state.dropped
      → n ≡ count_by (λ (l : Link). nat_lt l.number rows) children.links
      → ((name : RowName) → get name_cmp after_places name ≡ place_of old.inserted name) → length after_causes ≡ length old.inserted
      → AreSettled old.shapes old.inserted (take n children.links) (λ k. count_by (is_of k) (take names deleters.links)) after_causes
      → AreGroupsOf old.shapes old.inserted after_groups
      → IsKept old after_places after_causes (record { size = rows; links = take n children.links }) (record { size = rows; links = take names deleters.links }) (take rows ends) after_groups
  kept_old places after_places causes after_causes children deleters ends groups after_groups rows names n kept is drops refs placed size counts grouped = record {
    held = record { rules = rules; nodes = older; is = old_held };
    few = let a = count_is rules older in let b = ap (λ (s : State). s.count) held.is ∙ count_is rules (newer ++ older) in let c = length-append newer older in omega (arith, a, b, c, kept.few);
    bounded = λ n.
        let whole = kept.bounded n in
        let split = ap (count_by (λ (it : Inserted). nat_lt it.position n)) rows_are.is ∙ count_append (λ (it : Inserted). nat_lt it.position n) old.inserted rows_are.later in
        omega (arith, whole, split);
    dated = ap (λ n. list_all (λ (it : Inserted). nat_lt it.position n) old.inserted) (sym count_old) ∙ rows_are.before;
    layered = layered_old;
    placed = placed;
    each = size;
    counted = counts;
    grouped = grouped;
    homes = rows_len rows is;
    named = named_old children.links rows n kept.named is refs;
    ended = ended_old rows ends kept.ended is;
    rooms = rows_len rows is;
    few_children = let l = take_fewer n children.links in omega (arith, l, kept.few_children);
    few_deleters = let l = take_fewer names deleters.links in omega (arith, l, kept.few_deleters);
    deleted = deleted_old names deleters.links drops kept.deleted;
  }
