-- The meetings of a demonstration.
use Rattle.std.proofs.Common.{◌≡◌, ◌≢◌, ◌⊎◌, inl, inr, ℕ, ◌+◌, ◌-◌, ◌<◌, ◌≤◌, List, [], ◌∷◌, ◌++◌, Contains, Bool, true, false, not, cond, ◌&&◌, None, filter, slice_index_or, length, length-append, map, set, refl, sym, ap, subst, ◌∙◌, arith}
use Rattle.std.specs.Prelude.{count_by}
use Rattle.std.proofs.lemmas.Bool.{both_ways, le-leb}
use Rattle.std.proofs.Math.ListN.{get_or-append}
use Rattle.std.proofs.lemmas.List.{get_or-append-add, get_or_default, length-map, length-set, map-append, set-append_left, set-append_right}
use Rattle.std.proofs.lemmas.List.Elements.{All-contains, All-set, Contains-append_cases, Contains-append_left, Contains-append_right}
use Rattle.demonstration.specs.declared.author.Author.{Author}
use Rattle.demonstration.specs.Sites.{AreMakers, IsCourse, IsSite, MeetsWith, members_at, steps}
use Rattle.demonstration.proofs.Steps.{all_low, at_other, at_same, bytes_low, field_at, members_in}
use Rattle.demonstration_course.specs.Courses.{HasAll, HoldsOldest}
use Rattle.demonstration_course.proofs.Meeting.{met_apart_since, met_has_more, met_in_step, met_keeps_all}
use Rattle.demonstration_course.proofs.Permuting.{closed_distinct, distinct_both, distinct_cons, has_id, holds_id, ids_of, no_longer}
use Rattle.demonstration_course.proofs.Making.{same_or_not}
use Rattle.key_index.specs.KeyState.{KeyState}
use Rattle.lms_tree.specs.SecretKey.{SecretData}
use Rattle.session_rules.specs.Laws.{NoCollision}
use Rattle.session_rules.specs.Pair.{missing}
use Rattle.session_rules.proofs.Pigeons.{AreDistinct}
use Rattle.sync_session.specs.Carrying.{HasRoom}
use Rattle.table_model.proofs.Members.{contains_cases, contains_first, contains_later, contains_mapped, mapped_contains}
use Rattle.update_codec.specs.Parts.{entry_of, id_of}
use Rattle.update_model.proofs.Ids.{same_id-symm}
use Rattle.update_model.specs.Batch.{fits, store_limits}
use Rattle.update_model.specs.Entry.{Entry}
use Rattle.update_model.specs.declared.update_id.UpdateId.{UpdateId}
use Rattle.update_model.specs.Graph.{Follows, HaveSameMembers, byte_count, has, holds}

-- ---- room for both

-- what the other has and this one lacks
abbrev lacked : List (List ℕ) → List (List ℕ) → List (List ℕ)
lacked own other = filter (λ m. not (holds (map entry_of own) (id_of m))) other

lacked_entries : (own other : List (List ℕ)) → missing (map entry_of own) (map entry_of other) ≡ map entry_of (lacked own other)
lacked_entries own [] = refl
lacked_entries own (m ∷ other) = let rest = lacked_entries own other in
    elim (holds (map entry_of own) (id_of m)) as (λ b. cond (not b) (entry_of m ∷ missing (map entry_of own) (map entry_of other)) (missing (map entry_of own) (map entry_of other))
    ≡ map entry_of (cond (not b) (m ∷ lacked own other) (lacked own other))) [ true ↦ rest | false ↦ ap (λ l. entry_of m ∷ l) rest ]

lacked_in : (own other : List (List ℕ)) (n : List ℕ) → Contains (lacked own other) n → Contains other n × (holds (map entry_of own) (id_of n) ≡ false)
lacked_in own [] n c = absurd (let low = c.1 in omega arith)
lacked_in own (m ∷ other) n c = by (λ d. lacked_in own other n d) (holds (map entry_of own) (id_of m)) refl c
  where
    by : (Contains (lacked own other) n → Contains other n × (holds (map entry_of own) (id_of n) ≡ false)) → (b : Bool) → holds (map entry_of own) (id_of m) ≡ b
        → Contains (cond (not b) (m ∷ lacked own other) (lacked own other)) n → Contains (m ∷ other) n × (holds (map entry_of own) (id_of n) ≡ false)
    by rest true e d = (contains_later m n other (rest d).0, (rest d).1)
    by rest false e d = elim (contains_cases m n (lacked own other) d) [
      | inl here ↦ (subst (Contains (m ∷ other)) here (contains_first m other), subst (λ (z : List ℕ). holds (map entry_of own) (id_of z) ≡ false) here e)
      | inr there ↦ (contains_later m n other (rest there).0, (rest there).1)
    ]

lacked_distinct : (own other : List (List ℕ)) → AreDistinct (ids_of other) → AreDistinct (ids_of (lacked own other))
lacked_distinct own [] distinct = tt
lacked_distinct own (m ∷ other) distinct =
    let rest = lacked_distinct own other distinct.1 in
    elim (holds (map entry_of own) (id_of m)) as (λ b. AreDistinct (ids_of (cond (not b) (m ∷ lacked own other) (lacked own other)))) [
      | true ↦ rest
      | false ↦ distinct_cons m (lacked own other) (λ n c same. both_ways _ distinct.0 (subst (λ (i : UpdateId). has (ids_of other) i ≡ true) (sym same) (has_id other n (lacked_in own other n c).0))) rest
    ]

-- at most 4,000 short updates have room
room : (made own other : List (List ℕ)) → length made ≤ 4000 → ((m : List ℕ) → Contains made m → length m ≤ 60000) → Follows [] (map entry_of own) → Follows [] (map entry_of other)
    → ((m : List ℕ) → Contains own m → Contains made m) → ((m : List ℕ) → Contains other m → Contains made m) → HasRoom store_limits own other
room made own other few low closed closed_other of of_other =
    let both = own ++ lacked own other in
    let distinct = distinct_both own (lacked own other) (closed_distinct own closed) (lacked_distinct own other (closed_distinct other closed_other))
    (λ m n c d same. both_ways _ (lacked_in own other n d).1 (holds_id own n ∙ subst (λ (i : UpdateId). has (ids_of own) i ≡ true) same (has_id own m c))) in
    let within : (m : List ℕ) → Contains both m → Contains made m = λ m c. elim (Contains-append_cases own (lacked own other) m c) [ inl here ↦ of m here | inr there ↦ of_other m (lacked_in own other m there).0 ] in
    let fewer = no_longer both made distinct within in
    let bytes = bytes_low both (λ m c. low m (within m c)) in
    let size = length-map both entry_of in
    let is : map entry_of own ++ missing (map entry_of own) (map entry_of other) ≡ map entry_of both = ap (λ l. map entry_of own ++ l) (lacked_entries own other) ∙ sym (map-append entry_of own (lacked own other)) in
    subst (λ (l : List Entry). fits store_limits l ≡ true) (sym is)
    ((λ i. le-leb (length (map entry_of both)) 131072 (omega (arith, fewer, few, size)) i && le-leb (byte_count (map entry_of both)) 268435456 (omega (arith, fewer, few, bytes)) i))

-- ---- members of both

of_entries : (new one other : List (List ℕ)) → HaveSameMembers (map entry_of new) (map entry_of one ++ map entry_of other) → (m : List ℕ) → Contains new m → Contains one m ⊎ Contains other m
of_entries new one other same m c = elim (Contains-append_cases (map entry_of one) (map entry_of other) (entry_of m) ((same (entry_of m)).0 (contains_mapped entry_of m new c))) [
  | inl here ↦ inl (back one here)
  | inr there ↦ inr (back other there)
]
  where
    back : (l : List (List ℕ)) → Contains (map entry_of l) (entry_of m) → Contains l m
    back l d = let n = mapped_contains entry_of (entry_of m) l d in subst (Contains l) (ap (λ (e : Entry). e.bytes) n.2) n.1

in_entries : (new one other : List (List ℕ)) → HaveSameMembers (map entry_of new) (map entry_of one ++ map entry_of other) → (m : List ℕ) → Contains one m ⊎ Contains other m → Contains new m
in_entries new one other same m either = back ((same (entry_of m)).1 (elim either [
  | inl here ↦ Contains-append_left (map entry_of one) (map entry_of other) (entry_of m) (contains_mapped entry_of m one here)
  | inr there ↦ Contains-append_right (map entry_of one) (map entry_of other) (entry_of m) (contains_mapped entry_of m other there)
]))
  where
    back : Contains (map entry_of new) (entry_of m) → Contains new m
    back d = let n = mapped_contains entry_of (entry_of m) new d in subst (Contains new) (ap (λ (e : Entry). e.bytes) n.2) n.1

-- ---- a meeting

module _ (keys : List SecretData) (count since met reach x y : ℕ) (authors : List Author) (d one_new other_new : Author) (four : length authors ≡ 4) (low_x : x < 4) (low_y : y < 4) (differ : x ≢ y)
    (course : IsCourse keys (steps count since met reach) authors) (meets : MeetsWith (slice_index_or authors x d) (slice_index_or authors y d) one_new other_new)
    (site_one : IsSite keys course.schema course.made one_new) (site_other : IsSite keys course.schema course.made other_new) where
  abbrev one : Author
  one = slice_index_or authors x d

  abbrev other : Author
  other = slice_index_or authors y d

  abbrev authors_now : List Author
  authors_now = set (set authors x one_new) y other_new

  module _ {X : Type 0} (f : Author → X) (e : X) where
    size_now : y < length (set authors x one_new)
    size_now = rw (length-set authors x one_new) (omega (arith, four))

    now_x : slice_index_or (map f authors_now) x e ≡ f one_new
    now_x = at_other f e (set authors x one_new) y other_new x differ ∙ at_same f e authors x one_new (omega (arith, four))

    now_y : slice_index_or (map f authors_now) y e ≡ f other_new
    now_y = at_same f e (set authors x one_new) y other_new size_now

    now_else : (z : ℕ) → z ≢ x → z ≢ y → slice_index_or (map f authors_now) z e ≡ slice_index_or (map f authors) z e
    now_else z not_x not_y = at_other f e (set authors x one_new) y other_new z not_y ∙ at_other f e authors x one_new z not_x

    was_x : slice_index_or (map f authors) x e ≡ f one
    was_x = field_at f e authors x d (omega (arith, four))

    was_y : slice_index_or (map f authors) y e ≡ f other
    was_y = field_at f e authors y d (omega (arith, four))

    kept : f one_new ≡ f one → f other_new ≡ f other → (z : ℕ) → slice_index_or (map f authors_now) z e ≡ slice_index_or (map f authors) z e
    kept same same_other z = elim (same_or_not z x) [
      | inl is ↦ subst (λ k. slice_index_or (map f authors_now) k e ≡ slice_index_or (map f authors) k e) (sym is) (now_x ∙ same ∙ sym was_x)
      | inr not_x ↦ elim (same_or_not z y) [
        | inl is ↦ subst (λ k. slice_index_or (map f authors_now) k e ≡ slice_index_or (map f authors) k e) (sym is) (now_y ∙ same_other ∙ sym was_y)
        | inr not_y ↦ now_else z not_x not_y
      ]
    ]

  module _ (small : count ≤ 4000) (apart : NoCollision (map entry_of course.made) (map entry_of course.made)) where
    abbrev before : AreMakers course.made (steps count since met reach) authors
    before = course.makers small apart

    site_x : IsSite keys course.schema course.made one
    site_x = course.sites x d (omega (arith, four))

    site_y : IsSite keys course.schema course.made other
    site_y = course.sites y d (omega (arith, four))

    of_one : (m : List ℕ) → Contains one.store.history.members m → Contains course.made m
    of_one m c = All-contains (Contains course.made) one.store.history.members m site_x.of c

    of_other : (m : List ℕ) → Contains other.store.history.members m → Contains course.made m
    of_other m c = All-contains (Contains course.made) other.store.history.members m site_y.of c

    few_made : length course.made ≤ 4000
    few_made = let few = course.few in omega (arith, few, small)

    apart_two : NoCollision (map entry_of one.store.history.members) (map entry_of other.store.history.members)
    apart_two a b c d same =
        let m = mapped_contains entry_of a one.store.history.members c in
        let n = mapped_contains entry_of b other.store.history.members d in
        apart a b (subst (Contains (map entry_of course.made)) m.2 (contains_mapped entry_of m.0 course.made (of_one m.0 m.1)))
        (subst (Contains (map entry_of course.made)) n.2 (contains_mapped entry_of n.0 course.made (of_other n.0 n.1))) same

    low_made : (m : List ℕ) → Contains course.made m → length m ≤ 60000
    low_made m c = all_low keys course.made course.by_keys m c

    abbrev united : HaveSameMembers (map entry_of one_new.store.history.members) (map entry_of one.store.history.members ++ map entry_of other.store.history.members)
        × HaveSameMembers (map entry_of other_new.store.history.members) (map entry_of one.store.history.members ++ map entry_of other.store.history.members)
    united = meets.unites (site_x.schema_is ∙ sym site_y.schema_is) apart_two
        (room course.made one.store.history.members other.store.history.members few_made low_made meets.was.members.closed meets.was_other.members.closed of_one of_other)
        (room course.made other.store.history.members one.store.history.members few_made low_made meets.was_other.members.closed meets.was.members.closed of_other of_one)

    abbrev was : ℕ → List (List ℕ)
    was = members_at authors

    abbrev now : ℕ → List (List ℕ)
    now = members_at authors_now

    all_x : (m : List ℕ) → Contains (was x) m ⊎ Contains (was y) m → Contains (now x) m
    all_x m either = subst (λ (l : List (List ℕ)). Contains l m) (sym (now_x members_in [])) (in_entries one_new.store.history.members one.store.history.members other.store.history.members united.0 m
        (subst (λ (l : List (List ℕ)). Contains one.store.history.members m ⊎ Contains l m) (was_y members_in []) (subst (λ (l : List (List ℕ)). Contains l m ⊎ Contains (was y) m) (was_x members_in []) either)))

    of_x : (m : List ℕ) → Contains (now x) m → Contains (was x) m ⊎ Contains (was y) m
    of_x m c = subst (λ (l : List (List ℕ)). Contains l m ⊎ Contains (was y) m) (sym (was_x members_in [])) (subst (λ (l : List (List ℕ)). Contains one.store.history.members m ⊎ Contains l m) (sym (was_y members_in []))
        (of_entries one_new.store.history.members one.store.history.members other.store.history.members united.0 m (subst (λ (l : List (List ℕ)). Contains l m) (now_x members_in []) c)))

    all_y : (m : List ℕ) → Contains (was x) m ⊎ Contains (was y) m → Contains (now y) m
    all_y m either = subst (λ (l : List (List ℕ)). Contains l m) (sym (now_y members_in [])) (in_entries other_new.store.history.members one.store.history.members other.store.history.members united.1 m
        (subst (λ (l : List (List ℕ)). Contains one.store.history.members m ⊎ Contains l m) (was_y members_in []) (subst (λ (l : List (List ℕ)). Contains l m ⊎ Contains (was y) m) (was_x members_in []) either)))

    of_y : (m : List ℕ) → Contains (now y) m → Contains (was x) m ⊎ Contains (was y) m
    of_y m c = subst (λ (l : List (List ℕ)). Contains l m ⊎ Contains (was y) m) (sym (was_x members_in [])) (subst (λ (l : List (List ℕ)). Contains one.store.history.members m ⊎ Contains l m) (sym (was_y members_in []))
        (of_entries other_new.store.history.members one.store.history.members other.store.history.members united.1 m (subst (λ (l : List (List ℕ)). Contains l m) (now_y members_in []) c)))

    closed_x : Follows [] (map entry_of (now x))
    closed_x = subst (λ (l : List (List ℕ)). Follows [] (map entry_of l)) (sym (now_x members_in [])) meets.closed.members.closed

    closed_y : Follows [] (map entry_of (now y))
    closed_y = subst (λ (l : List (List ℕ)). Follows [] (map entry_of l)) (sym (now_y members_in [])) meets.closed_other.members.closed

    makers_now : (reach_now : ℕ) → HasAll before.chains (now 0) reach_now → AreMakers course.made (steps count since count reach_now) authors_now
    makers_now reach_now all = record {
      chains = before.chains;
      in_step = met_in_step course.made count x y before.chains was now low_x low_y before.in_step all_x of_x all_y of_y (λ z a b. now_else members_in [] z a b) closed_x closed_y;
      since = met_apart_since course.made count x y before.chains was now low_x low_y before.in_step all_x of_x all_y of_y (λ z a b. now_else members_in [] z a b) closed_x closed_y since met before.since;
      reached = all;
      last = λ z low. kept (λ (a : Author). a.last) None meets.last meets.last_other z ∙ before.last z low;
      left = λ z low. ap (λ (l : List Bool). count_by not l + length (before.chains z)) (kept (λ (a : Author). a.key.taken) [] (ap (λ (k : KeyState). k.taken) meets.key) (ap (λ (k : KeyState). k.taken) meets.key_other) z) ∙ before.left z low;
    }

    same_reach : HasAll before.chains (now 0) reach
    same_reach = met_keeps_all course.made count x y before.chains was now low_x low_y before.in_step all_x of_x all_y of_y (λ z a b. now_else members_in [] z a b) closed_x closed_y 0 reach before.reached

    more_reach : x ≡ 0 → reach ≡ y → HasAll before.chains (now 0) (y + 1)
    more_reach first is = subst (λ k. HasAll before.chains (now k) (y + 1)) first
        (met_has_more course.made count x y before.chains was now low_x low_y before.in_step all_x of_x all_y of_y (λ z a b. now_else members_in [] z a b) closed_x closed_y
        (subst (λ k. HasAll before.chains (was k) y) (sym first) (subst (HasAll before.chains (was 0)) is before.reached)))

  course_with : (reach_now : ℕ) → (count ≤ 4000 → NoCollision (map entry_of course.made) (map entry_of course.made) → AreMakers course.made (steps count since count reach_now) authors_now)
      → IsCourse keys (steps count since count reach_now) authors_now
  course_with reach_now makers = record {
    schema = course.schema;
    tables = course.tables;
    anyone = course.anyone;
    made = course.made;
    few = course.few;
    by_keys = course.by_keys;
    sites = All-set (IsSite keys course.schema course.made) (set authors x one_new) y other_new site_other (All-set (IsSite keys course.schema course.made) authors x one_new site_one course.sites);
    makers = makers;
  }

  pub met_course : IsCourse keys (steps count since count reach) authors_now
  met_course = course_with reach (λ small apart. makers_now small apart reach (same_reach small apart))

  pub met_reaches : x ≡ 0 → reach ≡ y → IsCourse keys (steps count since count (y + 1)) authors_now
  met_reaches first is = course_with (y + 1) (λ small apart. makers_now small apart (y + 1) (more_reach small apart first is))

-- ---- two parts of a list

-- one who stands in front met the first of those behind
module _ (keys : List SecretData) (count since met reach x y : ℕ) (authors front back : List Author) (d e one_new other_new : Author) (parts : authors ≡ front ++ back) (size : length front ≡ y) (four : length authors ≡ 4)
    (before : x < y) (low : y < 4) (course : IsCourse keys (steps count since met reach) authors) (meets : MeetsWith (slice_index_or front x d) (slice_index_or back 0 e) one_new other_new)
    (site_one : IsSite keys course.schema course.made one_new) (site_other : IsSite keys course.schema course.made other_new) where
  there : slice_index_or authors x d ≡ slice_index_or front x d
  there = ap (λ (l : List Author). slice_index_or l x d) parts ∙ get_or-append front back d x (omega (arith, size))

  behind : slice_index_or authors y d ≡ slice_index_or back 0 e
  behind =
      let at : y ≡ length front + 0 = omega (arith, size) in
      ap (λ (l : List Author). slice_index_or l y d) parts ∙ ap (λ n. slice_index_or (front ++ back) n d) at ∙ get_or-append-add front back 0 d
      ∙ get_or_default back 0 d e (let whole = ap length parts in let both = length-append front back in omega (arith, whole, both, size, four))

  met_them : MeetsWith (slice_index_or authors x d) (slice_index_or authors y d) one_new other_new
  met_them = subst (λ (a : Author). MeetsWith a (slice_index_or authors y d) one_new other_new) (sym there) (subst (λ (b : Author). MeetsWith (slice_index_or front x d) b one_new other_new) (sym behind) meets)

  sets : set (set authors x one_new) y other_new ≡ set front x one_new ++ set back 0 other_new
  sets =
      let long = length-set front x one_new in
      let none : y - y ≡ 0 = omega arith in
      ap (λ (l : List Author). set (set l x one_new) y other_new) parts ∙ ap (λ (l : List Author). set l y other_new) (set-append_left front back x one_new (omega (arith, size)))
      ∙ set-append_right (set front x one_new) back y y other_new (long ∙ size) (omega arith) ∙ ap (λ n. set front x one_new ++ set back n other_new) none

  pub front_meets : IsCourse keys (steps count since count reach) (set front x one_new ++ set back 0 other_new)
  front_meets = subst (IsCourse keys (steps count since count reach)) sets
      (met_course keys count since met reach x y authors d one_new other_new four (omega arith) low (λ same. absurd (omega (arith, same))) course met_them site_one site_other)

  pub front_reaches : x ≡ 0 → reach ≡ y → IsCourse keys (steps count since count (y + 1)) (set front x one_new ++ set back 0 other_new)
  front_reaches first is = subst (IsCourse keys (steps count since count (y + 1))) sets
      (met_reaches keys count since met reach x y authors d one_new other_new four (omega arith) low (λ same. absurd (omega (arith, same))) course met_them site_one site_other first is)

-- ---- the same authors after other steps

course_by : (keys : List SecretData) (count since met reach since_now met_now reach_now : ℕ) (authors : List Author) (course : IsCourse keys (steps count since met reach) authors)
    → (AreMakers course.made (steps count since met reach) authors → AreMakers course.made (steps count since_now met_now reach_now) authors) → IsCourse keys (steps count since_now met_now reach_now) authors
course_by keys count since met reach since_now met_now reach_now authors course moved = record {
  schema = course.schema;
  tables = course.tables;
  anyone = course.anyone;
  made = course.made;
  few = course.few;
  by_keys = course.by_keys;
  sites = course.sites;
  makers = λ small apart. moved (course.makers small apart);
}

makers_by : (made : List (List ℕ)) (count since met reach reach_now : ℕ) (authors : List Author) (before : AreMakers made (steps count since met reach) authors)
    → HasAll before.chains (members_at authors 0) reach_now → AreMakers made (steps count since met reach_now) authors
makers_by made count since met reach reach_now authors before all = record {
  chains = before.chains;
  in_step = before.in_step;
  since = before.since;
  reached = all;
  last = before.last;
  left = before.left;
}

-- no step is left since which anything is said
pub forgets : (keys : List SecretData) (count since met reach : ℕ) (authors : List Author) → IsCourse keys (steps count since met reach) authors → IsCourse keys (steps count count count reach) authors
forgets keys count since met reach authors course = course_by keys count since met reach count count reach authors course (λ before. record {
  chains = before.chains;
  in_step = before.in_step;
  since = record {
    unnamed = λ k from to m older is x low. absurd (omega (arith, from, to));
    alone = λ k from to m older is x low holds. absurd (omega (arith, from, to));
  };
  reached = before.reached;
  last = before.last;
  left = before.left;
})

-- the first author has its own updates
pub reaches_own : (keys : List SecretData) (count since met reach : ℕ) (authors : List Author) → IsCourse keys (steps count since met reach) authors → IsCourse keys (steps count since met 1) authors
reaches_own keys count since met reach authors course = course_by keys count since met reach since met 1 authors course (λ before. makers_by course.made count since met reach 1 authors before
    (own before.chains (before.in_step.holds 0 (omega arith))))
  where
    own : (chains : ℕ → List (List ℕ)) → HoldsOldest chains 0 (members_at authors 0) → HasAll chains (members_at authors 0) 1
    own chains holds b low m c =
        let first : b ≡ 0 = omega (arith, low) in
        holds.all m (0, omega arith, subst (λ (l : List (List ℕ)). Contains l m) (sym holds.own) (subst (λ k. Contains (chains k) m) first c))

-- nothing is said of what the first author has
pub reaches_none : (keys : List SecretData) (count since met reach : ℕ) (authors : List Author) → IsCourse keys (steps count since met reach) authors → IsCourse keys (steps count since met 0) authors
reaches_none keys count since met reach authors course = course_by keys count since met reach since met 0 authors course (λ before. makers_by course.made count since met reach 0 authors before
    (λ b low m c. absurd (omega (arith, low))))

-- the two sides exchanged
pub exchanged : (a b a_new b_new : Author) → MeetsWith a b a_new b_new → MeetsWith b a b_new a_new
exchanged a b a_new b_new meets = record {
  key = meets.key_other;
  key_other = meets.key;
  last = meets.last_other;
  last_other = meets.last;
  was = meets.was_other;
  was_other = meets.was;
  closed = meets.closed_other;
  closed_other = meets.closed;
  unites = λ same apart room room_other.
      let both = meets.unites (sym same) (λ m n c d is. sym (apart n m d c (same_id-symm n.id m.id ∙ is))) room_other room in
      (swapped (map entry_of b_new.store.history.members) both.1, swapped (map entry_of a_new.store.history.members) both.0);
}
  where
    across : (l k : List Entry) (e : Entry) → Contains (l ++ k) e → Contains (k ++ l) e
    across l k e c = elim (Contains-append_cases l k e c) [ inl first ↦ Contains-append_right k l e first | inr second ↦ Contains-append_left k l e second ]

    swapped : (new : List Entry) → HaveSameMembers new (map entry_of a.store.history.members ++ map entry_of b.store.history.members)
        → HaveSameMembers new (map entry_of b.store.history.members ++ map entry_of a.store.history.members)
    swapped new same e = (
      λ c. across (map entry_of a.store.history.members) (map entry_of b.store.history.members) e ((same e).0 c),
      λ c. (same e).1 (across (map entry_of b.store.history.members) (map entry_of a.store.history.members) e c),
    )
