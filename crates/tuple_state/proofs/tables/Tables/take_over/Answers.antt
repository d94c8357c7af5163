use Rattle.std.proofs.Common.{◌≡◌, ℕ, ◌+◌, ◌-◌, ◌++◌, length, get_or, take, drop, replicate, List, Option, Some, vec_len, length-append, true, false, refl, ap, sym, subst, ◌∙◌, inl, inr, arith}
use Rattle.std.specs.Prelude.{count_by, ◌==◌}
use Rattle.std.specs.BTreeMap.{BTreeMap, get}
use Rattle.std.proofs.lemmas.Bool.{cases_Bool}
use Rattle.std.proofs.lemmas.List.Sums.{count_by-le-length}
use Rattle.std.proofs.lemmas.List.{length-map, length-replicate, nil_from_length, take_all, take_at}
use Rattle.update_model.specs.declared.row_name.RowName.{RowName}
use Rattle.table_model.specs.Tables.{name_cmp}
use Rattle.tuple_state.specs.declared.dropped.Dropped.{Dropped}
use Rattle.tuple_state.specs.declared.inserted.Inserted.{Inserted}
use Rattle.tuple_state.specs.declared.links.Link.{Link}
use Rattle.tuple_state.specs.declared.tables.Tables.TheInside.{Inside}
use Rattle.tuple_state.specs.declared.tables.Tables.TheView.{view}
use Rattle.tuple_state.specs.Causes.{AreRising, absent_times, ends_from, parents_from}
use Rattle.tuple_state.specs.Changes.{AreWithParents}
use Rattle.tuple_state.specs.Grouped.{AreGroupsOf}
use Rattle.tuple_state.specs.Kept.{deletes_at, pairs_of, place_of}
use Rattle.tuple_state.specs.Least.{AreSettled}
use Rattle.tuple_state.specs.Links.{Linked, are_inside, is_of}
use Rattle.tuple_state.specs.State.{State, keep_any, rules_of_state}
use Rattle.tuple_state.specs.Values.{first_of}
use Rattle.tuple_state.proofs.Adding.{rising_lower}
use Rattle.tuple_state.proofs.Deleting.{all_same, links_inside, pairs_same}
use Rattle.tuple_state.proofs.Gathering.{groups_at, groups_moved, take_before}
use Rattle.tuple_state.proofs.Keeping.{deleters_next, drops_of, drops_there, ended_next, kept_next, known_inside, layered_next, level_next, named_next, news_of, padded_counts, padded_few, parents_found, refs_rising, rising_next}
use Rattle.tuple_state.proofs.Leasts.{plain_settled, settled_moved}
use Rattle.tuple_state.proofs.Levels.{level_moved}
use Rattle.tuple_state.proofs.Lookups.{row_found}
use Rattle.tuple_state.proofs.Marks.{fresh_layered}
use Rattle.tuple_state.proofs.Parting.{ends_each, parted, parted_moved}
use Rattle.tuple_state.proofs.Raising.{absent_fewer}
use Rattle.tuple_state.proofs.Shortening.{kept_places}
use Rattle.tuple_state.proofs.Spans.{ends-length}
use Rattle.tuple_state.proofs.tables.Tables.take_over.Goals as goal

-- ---- what is taken over, by what the tables hold inside

given : (inside : Inside) {seen : State} {i : List Inserted} {d p : List Dropped} {e : List ℕ} → view inside ≡ seen → AreWithParents seen i d p e → AreWithParents (view inside) i d p e
given inside {i = i} {d = d} {p = p} {e = e} is next = subst (λ (s : State). AreWithParents s i d p e) (sym is) next

module _ (inside : Inside) {i : List Inserted} {d p : List Dropped} {e : List ℕ} (next : AreWithParents (view inside) i d p e) where
  abbrev news : List Inserted
  news = news_of (view inside) next.changes.node

  abbrev whole : List Inserted
  whole = inside.rows.items ++ news

  abbrev drops : List Dropped
  drops = drops_of (view inside) next.changes.node

  abbrev parents : List Dropped
  parents = parents_from (rules_of_state (view inside)) (length inside.rows.items) news

  abbrev ends : List ℕ
  ends = ends_from (rules_of_state (view inside)) (length (parents_from (rules_of_state (view inside)) 0 inside.rows.items)) news

  parents_are : p ≡ parents
  parents_are = next.parents_are ∙ ap (parents_from (rules_of_state (view inside)) (length inside.rows.items)) next.changes.rows

  ends_are : e ≡ ends
  ends_are = next.ends_are ∙ ap (ends_from (rules_of_state (view inside)) (length (parents_from (rules_of_state (view inside)) 0 inside.rows.items))) next.changes.rows

  placed : {rows more : List Inserted} (places : BTreeMap RowName ℕ) → ((name : RowName) → get name_cmp places name ≡ place_of (rows ++ more) name) → rows ≡ inside.rows.items → more ≡ i → (name : RowName) → get name_cmp places name ≡ place_of whole name
  placed places at is so name = at name ∙ (λ k. place_of (is k ++ (so ∙ next.changes.rows) k) name)

  all_rows : {rows more : List Inserted} → rows ≡ inside.rows.items → more ≡ i → rows ++ more ≡ whole
  all_rows is so = λ k. is k ++ (so ∙ next.changes.rows) k

  refs_are : {names : List Dropped} (refs : List Link) (places : BTreeMap RowName ℕ) → ((name : RowName) → get name_cmp places name ≡ place_of whole name) → names ≡ p → pairs_of refs ≡ deletes_at (get name_cmp places) names → pairs_of refs ≡ deletes_at (place_of whole) parents
  refs_are refs places at is so = so ∙ ap (deletes_at (get name_cmp places)) (is ∙ parents_are) ∙ pairs_same at parents

  names_are : {names : List Dropped} (links : List Link) (places : BTreeMap RowName ℕ) → ((name : RowName) → get name_cmp places name ≡ place_of whole name) → names ≡ d → pairs_of links ≡ deletes_at (get name_cmp places) names → pairs_of links ≡ deletes_at (place_of whole) drops
  names_are links places at is so = so ∙ ap (deletes_at (get name_cmp places)) (is ∙ next.changes.names) ∙ pairs_same at drops

-- ---- new places

pub enter-requires-clause-groups : goal.enter-requires-clause-groups
enter-requires-clause-groups c = groups_at (sym c.as_slice-shapes.ensures.value) (sym (c.as_slice-old.ensures.value ∙ c.reserve_rows.ensures.rows)) c.self.invariant.grouped

pub enter-requires-clause-fresh : goal.enter-requires-clause-fresh
enter-requires-clause-fresh c =
    let next = given c.self.inside c.self.view_is c.requires.next in
    rw (c.as_slice-old.ensures.value, c.reserve_rows.ensures.rows, c.as_slice-news.ensures.value, next.changes.rows) (fresh_layered _ c.self.inside.rows.items _ (layered_next c.self.invariant next.changes.next))

pub invariant_of-self-in_err-enter : goal.invariant_of-self-in_err-enter
invariant_of-self-in_err-enter c =
    rw (c.reserve_rows.ensures.rows, c.reserve_rows.ensures.causes, c.reserve.ensures.items, c.reserve_rows.ensures.ends)
    (kept_places c.enter.new.places c.enter.new.groups c.self.invariant (groups_at c.as_slice-shapes.ensures.value (c.as_slice-old.ensures.value ∙ c.reserve_rows.ensures.rows) c.in_err-enter.ensures.groups) (rw (c.as_slice-old.ensures.value, c.reserve_rows.ensures.rows) at c.in_err-enter.ensures.err) refl refl)

pub remove_places-requires-clause-fresh : goal.remove_places-requires-clause-fresh
remove_places-requires-clause-fresh c =
    let next = given c.self.inside c.self.view_is c.requires.next in
    rw (c.as_slice-old.ensures.value, c.reserve_rows.ensures.rows, c.as_slice-news.ensures.value, next.changes.rows) (fresh_layered _ c.self.inside.rows.items _ (layered_next c.self.invariant next.changes.next))

pub invariant_of-self-in-Err : goal.invariant_of-self-in-Err
invariant_of-self-in-Err c =
    let rows : c.as_slice-old.result.now ≡ c.self.inside.rows.items = c.as_slice-old.ensures.value ∙ c.reserve_rows.ensures.rows in
    let all : c.len-first.result ≡ length c.self.inside.rows.items = omega (arith, c.len-first.ensures) in
    let back : AreGroupsOf c.self.inside.shapes.items c.self.inside.rows.items c.cut.new.self =
    groups_at refl ((λ i. take (all i) (rows i ++ c.as_slice-news.result.now)) ∙ take_before c.self.inside.rows.items c.as_slice-news.result.now)
    (c.cut.ensures c.self.inside.shapes.items (c.as_slice-old.result.now ++ c.as_slice-news.result.now) (groups_at c.as_slice-shapes.ensures.value refl c.in_ok-enter.ensures.groups)) in
    rw (c.reserve_rows.ensures.rows, c.reserve_rows.ensures.causes, c.reserve.ensures.items, c.reserve_rows.ensures.ends)
    (kept_places c.remove_places.new.places c.cut.new.self c.self.invariant back (rw (c.as_slice-old.ensures.value, c.reserve_rows.ensures.rows) at c.remove_places.ensures) c.in-Err.ensures.children c.in-Err.ensures.deleters)

-- ---- new links

module _ (c : goal.After-as_slice-2) where
  link_next : AreWithParents (view c.self.inside) c.args.inserted.now.items c.args.dropped.now.items c.args.parents.now.names.items c.args.parents.now.ends.items
  link_next = given c.self.inside c.self.view_is c.requires.next

  link_places : (name : RowName) → get name_cmp c.enter.new.places name ≡ place_of (whole c.self.inside link_next) name
  link_places = placed c.self.inside link_next c.enter.new.places c.in_ok-enter.ensures.ok (c.as_slice-old.ensures.value ∙ c.reserve_rows.ensures.rows) c.as_slice-news.ensures.value

pub grow_links-requires-clause-named : goal.grow_links-requires-clause-named
grow_links-requires-clause-named c =
    let next = link_next c in
    rw (c.as_slice.ensures.value, parents_are c.self.inside next) (all_same (link_places c) (parents c.self.inside next) ∙ parents_found c.self.invariant next.changes.next)

pub grow_links-requires-clause-found : goal.grow_links-requires-clause-found
grow_links-requires-clause-found c =
    let next = link_next c in
    rw (c.as_slice-2.ensures.value, next.changes.names) (all_same (link_places c) (drops c.self.inside next) ∙ drops_there c.self.invariant next.changes.next)

pub grow_links-requires-clause-inside : goal.grow_links-requires-clause-inside
grow_links-requires-clause-inside c name place at =
    let next = link_next c in
    let row = row_found (whole c.self.inside next) name place (sym (link_places c name) ∙ at) in
    let len = length-append c.self.inside.rows.items (news c.self.inside next) in
    let more = ap length next.changes.rows in
    omega (arith, row.below, len, more, c.len-first.ensures, c.len-more.ensures)

-- ---- new causes

module _ (c : goal.After-added-in-Ok-1) where
  add_next : AreWithParents (view c.self.inside) c.args.inserted.now.items c.args.dropped.now.items c.args.parents.now.names.items c.args.parents.now.ends.items
  add_next = given c.self.inside c.self.view_is c.requires.next

  add_placed : (name : RowName) → get name_cmp c.enter.new.places name ≡ place_of (whole c.self.inside add_next) name
  add_placed = placed c.self.inside add_next c.enter.new.places c.in_ok-enter.ensures.ok (c.as_slice-old.ensures.value ∙ c.reserve_rows.ensures.rows) c.as_slice-news.ensures.value

  add_refs : pairs_of c.in-Ok.added.parents.items ≡ deletes_at (place_of (whole c.self.inside add_next)) (parents c.self.inside add_next)
  add_refs = refs_are c.self.inside add_next c.in-Ok.added.parents.items c.enter.new.places add_placed c.as_slice.ensures.value c.in-Ok.ensures.parents

  add_names : pairs_of c.in-Ok.added.dropped.items ≡ deletes_at (place_of (whole c.self.inside add_next)) (drops c.self.inside add_next)
  add_names = names_are c.self.inside add_next c.in-Ok.added.dropped.items c.enter.new.places add_placed c.as_slice-2.ensures.value c.in-Ok.ensures.dropped

  add_more : c.len-more.result ≡ length (news c.self.inside add_next)
  add_more = let rows = ap length add_next.changes.rows in omega (arith, rows, c.len-more.ensures)

  -- the new rows have no cause yet
  add_whole : c.as_mut_slice-causes.result.now ≡ c.self.inside.causes.items ++ replicate (length (news c.self.inside add_next)) 0
  add_whole =
      let size = c.self.invariant.each in
      let more : c.len-first.result + c.len-more.result - vec_len c.reserve_rows.new.causes ≡ length (news c.self.inside add_next) = (let room = ap length c.reserve_rows.ensures.causes in omega (arith, c.len-first.ensures, add_more, size, room)) in
      c.as_mut_slice-causes.ensures.value ∙ (rw (c.unwrap.ensures, c.reserve_rows.ensures.causes) at c.resize.ensures.items)
      ∙ (λ i. take_all (c.len-first.result + c.len-more.result) c.self.inside.causes.items (omega (arith, c.len-first.ensures, size)) i ++ replicate (more i) 0)

  add_len : length c.as_mut_slice-causes.result.now ≡ length (whole c.self.inside add_next)
  add_len =
      let a = ap length add_whole in
      let b = length-append c.self.inside.causes.items (replicate (length (news c.self.inside add_next)) 0) in
      let d = length-replicate {A = ℕ} (length (news c.self.inside add_next)) 0 in
      let e = length-append c.self.inside.rows.items (news c.self.inside add_next) in
      omega (arith, a, b, d, e, c.self.invariant.each)

pub add_causes-requires-clause-rising : goal.add_causes-requires-clause-rising
add_causes-requires-clause-rising c =
    let refs = c.in-Ok.added.parents.items in
    let links = c.self.inside.children.links in
    subst (λ (l : List Link). AreRising 0 (length c.as_mut_slice-causes.result.now) l) (sym (ap (λ (d : Linked). d.links) c.in-Ok.ensures.children))
    (subst (λ m. AreRising 0 m (links ++ refs)) (sym (add_len c)) (rising_next c.self.invariant (add_next c).changes.next refs (add_refs c)))

pub add_causes-requires-clause-parents : goal.add_causes-requires-clause-parents
add_causes-requires-clause-parents c =
    let next = add_next c in
    let refs = c.in-Ok.added.parents.items in
    subst (λ m. AreRising 0 m refs) (sym (add_len c)) (rising_lower (length c.self.inside.rows.items) 0 (length (whole c.self.inside next)) refs (omega arith) (refs_rising c.self.invariant next.changes.next refs (add_refs c)))

pub add_causes-requires-clause-dropped : goal.add_causes-requires-clause-dropped
add_causes-requires-clause-dropped c =
    let rows = whole c.self.inside (add_next c) in
    links_inside (place_of rows) (length c.as_mut_slice-causes.result.now) c.in-Ok.added.dropped.items (drops c.self.inside (add_next c)) (add_names c)
    (λ name k found. let row = row_found rows name k found in let len = add_len c in omega (arith, row.below, len))

pub add_causes-requires-clause-room : goal.add_causes-requires-clause-room
add_causes-requires-clause-room c =
    let next = add_next c in
    let names = c.in-Ok.added.dropped.items in
    elim c.requires.room [
      | inl none ↦
          let pair = ap length (add_names c) in
          let made = length-map {B = Option ℕ × ℕ} names (λ (link : Link). (Some link.place, link.number)) in
          let dropped = length-map {B = Option ℕ × ℕ} (drops c.self.inside next) (λ (drop : Dropped). (place_of (whole c.self.inside next) drop.name, drop.position)) in
          let left = ap length next.changes.names in
          let no = ap length none in
          inl (nil_from_length names (omega (arith, pair, made, dropped, left, no)))
      | inr room ↦
          let len = add_len c in
          let all = length-append c.self.inside.rows.items (news c.self.inside next) in
          let rows = ap (λ (s : State). length s.inserted) c.self.view_is in
          let more = ap length next.changes.rows in
          inr (omega (arith, room, len, all, rows, more))
    ]

pub add_causes-requires-clause-few : goal.add_causes-requires-clause-few
add_causes-requires-clause-few c k =
    let links = c.self.inside.children.links in
    let gone = c.self.inside.deleters.links in
    let refs = c.in-Ok.added.parents.items in
    let names = c.in-Ok.added.dropped.items in
    let more = length (news c.self.inside (add_next c)) in
    let same = ap (λ (l : List ℕ). get_or l k 0) (add_whole c) in
    let count = padded_few c.self.invariant (add_next c).changes.next more k in
    let absent = absent_fewer links (c.self.inside.causes.items ++ replicate more 0) k in
    let known = count_by-le-length (λ (link : Link). link.number == k) links in
    let added = count_by-le-length (λ (link : Link). link.number == k) refs in
    let all = count_by-le-length (λ (link : Link). link.number == k) c.grow_links.new.children.links in
    let left = count_by-le-length (is_of k) gone in
    let going = count_by-le-length (is_of k) names in
    let child_len = ap (λ (d : Linked). length d.links) c.in-Ok.ensures.children ∙ length-append links refs in
    let gone_len = ap (λ (d : Linked). length d.links) c.in-Ok.ensures.deleters ∙ length-append gone names in
    omega (arith, same, count, absent, known, added, all, left, going, child_len, gone_len, c.grow_links.ensures.few_children, c.grow_links.ensures.few_deleters)

-- ---- all causes, counted anew

module _ (c : goal.After-grounds-1) where
  count_next : AreWithParents (view c.self.inside) c.args.inserted.now.items c.args.dropped.now.items c.args.parents.now.names.items c.args.parents.now.ends.items
  count_next = given c.self.inside c.self.view_is c.requires.next

  count_placed : (name : RowName) → get name_cmp c.enter.new.places name ≡ place_of (whole c.self.inside count_next) name
  count_placed = placed c.self.inside count_next c.enter.new.places c.in_ok-enter.ensures.ok (c.as_slice-old.ensures.value ∙ c.reserve_rows.ensures.rows) c.as_slice-news.ensures.value

  count_refs : pairs_of c.in-Ok.added.parents.items ≡ deletes_at (place_of (whole c.self.inside count_next)) (parents c.self.inside count_next)
  count_refs = refs_are c.self.inside count_next c.in-Ok.added.parents.items c.enter.new.places count_placed c.as_slice.ensures.value c.in-Ok.ensures.parents

  count_rows : c.new-grounds.result.rows.now ≡ whole c.self.inside count_next
  count_rows = c.new-grounds.ensures.rows ∙ (rw (c.unwrap-2.ensures, c.reserve_rows.ensures.rows, count_next.changes.rows) at c.append.ensures.items)

  count_shapes : c.new-grounds.result.shapes.now ≡ c.self.inside.shapes.items
  count_shapes = c.new-grounds.ensures.shapes ∙ c.as_slice-shapes.ensures.value

  count_children : c.new-grounds.result.children.now ≡ c.self.inside.children.links ++ c.in-Ok.added.parents.items
  count_children = c.new-grounds.ensures.children ∙ ap (λ (d : Linked). d.links) c.in-Ok.ensures.children

  count_ends : c.new-grounds.result.ends.now ≡ ends_from (rules_of_state (view c.self.inside)) 0 (whole c.self.inside count_next)
  count_ends =
      c.new-grounds.ensures.ends ∙ (rw (c.unwrap-4.ensures, c.reserve_rows.ensures.ends) at c.append-3.ensures.items)
      ∙ ended_next c.self.invariant count_next.changes.next c.args.parents.now.ends.items (ends_are c.self.inside count_next)

pub recount-requires-clause-rising : goal.recount-requires-clause-rising
recount-requires-clause-rising c =
    let refs = c.in-Ok.added.parents.items in
    subst (λ (l : List Link). AreRising 0 (length c.new-grounds.result.rows.now) l) (sym (count_children c))
    (subst (λ m. AreRising 0 m (c.self.inside.children.links ++ refs)) (sym (ap length (count_rows c))) (rising_next c.self.invariant (count_next c).changes.next refs (count_refs c)))

pub recount-requires-clause-level : goal.recount-requires-clause-level
recount-requires-clause-level c =
    level_moved c.self.inside.shapes.items _ (whole c.self.inside (count_next c)) _ (c.self.inside.children.links ++ c.in-Ok.added.parents.items) _ (sym (count_shapes c)) (sym (count_rows c)) (sym (count_children c))
    (level_next c.self.invariant (count_next c).changes.next c.in-Ok.added.parents.items (count_refs c))

pub recount-requires-clause-ends : goal.recount-requires-clause-ends
recount-requires-clause-ends c = ends_each (rules_of_state (view c.self.inside)) (whole c.self.inside (count_next c)) c.new-grounds.result.ends.now (count_ends c) ∙ sym (ap length (count_rows c))

pub recount-requires-clause-parted : goal.recount-requires-clause-parted
recount-requires-clause-parted c =
    let rules = rules_of_state (view c.self.inside) in
    let rows = whole c.self.inside (count_next c) in
    let links = c.self.inside.children.links ++ c.in-Ok.added.parents.items in
    parted_moved links _ (ends_from rules 0 rows) _ (sym (count_children c)) (sym (count_ends c))
    (parted rules (place_of rows) rows links (ends_from rules 0 rows) (named_next c.self.invariant (count_next c).changes.next c.in-Ok.added.parents.items (count_refs c)) refl)

pub recount-requires-clause-inside : goal.recount-requires-clause-inside
recount-requires-clause-inside c =
    let names = c.in-Ok.added.dropped.items in
    let next = count_next c in
    subst (λ (l : List Link). are_inside (length c.new-grounds.result.rows.now) l ≡ true) (sym (ap (λ (d : Linked). d.links) c.in-Ok.ensures.deleters))
    (subst (λ m. are_inside m (c.self.inside.deleters.links ++ names) ≡ true) (sym (ap length (count_rows c)))
    (deleters_next c.self.invariant next.changes.next c.in-Ok.added.parents.items (count_refs c) names (names_are c.self.inside next names c.enter.new.places (count_placed c) c.as_slice-2.ensures.value c.in-Ok.ensures.dropped)))

pub recount-requires-clause-groups : goal.recount-requires-clause-groups
recount-requires-clause-groups c =
    groups_at (c.as_slice-shapes.ensures.value ∙ sym (count_shapes c)) (all_rows c.self.inside (count_next c) (c.as_slice-old.ensures.value ∙ c.reserve_rows.ensures.rows) c.as_slice-news.ensures.value ∙ sym (count_rows c)) c.in_ok-enter.ensures.groups

pub unwrap-requires-4 : goal.unwrap-requires-4
unwrap-requires-4 c =
    let next = given c.self.inside c.self.view_is c.requires.next in
    let long = ap length next.ends_are ∙ ends-length (rules_of_state (view c.self.inside)) (length (parents_from (rules_of_state (view c.self.inside)) 0 c.self.inside.rows.items)) c.args.inserted.now.items in
    let kept = ap length c.reserve_rows.ensures.ends in
    c.append-3.ensures.succeeds (omega (arith, long, kept, c.len-more.ensures, c.in_ok-reserve_rows.ensures.end_room))

-- ---- what is kept then

pub invariant_of-self-2 : goal.invariant_of-self-2
invariant_of-self-2 c =
    let inside = c.self.inside in
    let next = given inside c.self.view_is c.requires.next in
    let valid = next.changes.next in
    let rows = whole inside next in
    let places = c.enter.new.places in
    let at = placed inside next places c.in_ok-enter.ensures.ok (c.as_slice-old.ensures.value ∙ c.reserve_rows.ensures.rows) c.as_slice-news.ensures.value in
    let refs = c.in-Ok.added.parents.items in
    let refs_so = refs_are inside next refs places at c.as_slice.ensures.value c.in-Ok.ensures.parents in
    let names = c.in-Ok.added.dropped.items in
    let names_so = names_are inside next names places at c.as_slice-2.ensures.value c.in-Ok.ensures.dropped in
    let links = inside.children.links ++ refs in
    let gone = inside.deleters.links ++ names in
    let children_are : c.grow_links.new.children.links ≡ links = ap (λ (d : Linked). d.links) c.in-Ok.ensures.children in
    let deleters_are : c.grow_links.new.deleters.links ≡ gone = ap (λ (d : Linked). d.links) c.in-Ok.ensures.deleters in
    let few = ap length next.changes.rows in
    let sum = length-append inside.rows.items (news inside next) in
    let size = c.self.invariant.each in
    let causes_so : c.as_mut_slice-causes.result.now ≡ inside.causes.items ++ replicate (length (news inside next)) 0 =
    (let more : c.len-first.result + c.len-more.result - vec_len c.reserve_rows.new.causes ≡ length (news inside next) = (let room = ap length c.reserve_rows.ensures.causes in omega (arith, c.len-first.ensures, c.len-more.ensures, few, size, room)) in
    c.as_mut_slice-causes.ensures.value ∙ (rw (c.unwrap.ensures, c.reserve_rows.ensures.causes) at c.resize.ensures.items)
    ∙ (λ i. take_all (c.len-first.result + c.len-more.result) inside.causes.items (omega (arith, c.len-first.ensures, size)) i ++ replicate (more i) 0)) in
    let len : length c.as_mut_slice-causes.result.now ≡ length rows =
    (let a = ap length causes_so in let b = length-append inside.causes.items (replicate (length (news inside next)) 0) in let d = length-replicate {A = ℕ} (length (news inside next)) 0 in omega (arith, a, b, d, sum, size)) in
    let front : take c.resize.new.self.len (c.add_causes.new.causes ++ drop (length c.add_causes.new.causes) c.resize.new.self.items) ≡ c.add_causes.new.causes =
    take_at c.add_causes.new.causes (drop (length c.add_causes.new.causes) c.resize.new.self.items) c.resize.new.self.len (c.add_causes.auto.causes ∙ c.as_mut_slice-causes.ensures.len) in
    let before : keep_any inside.shapes.items ≡ false → (k : ℕ) → get_or c.as_mut_slice-causes.result.now k 0 ≡ count_by (is_of k) inside.deleters.links + absent_times inside.children.links c.as_mut_slice-causes.result.now k =
    λ plain.
    subst (λ (l : List ℕ). (k : ℕ) → get_or l k 0 ≡ count_by (is_of k) inside.deleters.links + absent_times inside.children.links l k) (sym causes_so) (padded_counts c.self.invariant valid plain (length (news inside next))) in
    let counts : keep_any inside.shapes.items ≡ false → (k : ℕ) → get_or c.add_causes.new.causes k 0 ≡ count_by (is_of k) gone + absent_times links c.add_causes.new.causes k =
    λ plain k.
    c.add_causes.ensures (length inside.rows.items) inside.children.links inside.deleters.links children_are (subst (λ m. AreRising (length inside.rows.items) m refs) (sym len) (refs_rising c.self.invariant valid refs refs_so)) (known_inside c.self.invariant valid) (before plain) k
    ∙ ap (λ (l : List Link). count_by (is_of k) gone + absent_times l c.add_causes.new.causes k) children_are in
    let added : List ℕ = take c.resize.new.self.len (c.add_causes.new.causes ++ drop (length c.add_causes.new.causes) c.resize.new.self.items) in
    let last : take c.resize.new.self.len (c.recount.new.causes ++ drop (length c.recount.new.causes) added) ≡ c.recount.new.causes =
    take_at c.recount.new.causes (drop (length c.recount.new.causes) added) c.resize.new.self.len (c.recount.auto.causes ∙ c.as_mut_slice-causes-2.ensures.len) in
    let rows_so = rw (c.unwrap-2.ensures, c.reserve_rows.ensures.rows, next.changes.rows) at c.append.ensures.items in
    let rows_now : c.new-grounds.result.rows.now ≡ rows = c.new-grounds.ensures.rows ∙ rows_so in
    let shapes_now = c.new-grounds.ensures.shapes ∙ c.as_slice-shapes.ensures.value in
    let settled : AreSettled inside.shapes.items rows links (λ k. count_by (is_of k) gone) c.recount.new.causes =
    elim (cases_Bool (keep_any inside.shapes.items)) [
      | inl keeps ↦
          settled_moved _ inside.shapes.items _ rows _ links _ gone c.recount.new.causes shapes_now rows_now (c.new-grounds.ensures.children ∙ children_are) deleters_are
          (c.recount.ensures.counted (ap keep_any shapes_now ∙ keeps))
      | inr plain ↦
          let stays : c.recount.new.causes ≡ c.add_causes.new.causes = c.recount.ensures.plain (ap keep_any shapes_now ∙ plain) ∙ c.as_mut_slice-causes-2.ensures.value ∙ front in
          plain_settled inside.shapes.items rows links (λ k. count_by (is_of k) gone) c.recount.new.causes plain
          (subst (λ (l : List ℕ). (k : ℕ) → get_or l k 0 ≡ count_by (is_of k) gone + absent_times links l k) (sym stays) (counts plain))
    ] in
    let grouped : AreGroupsOf inside.shapes.items rows c.enter.new.groups =
    groups_at c.as_slice-shapes.ensures.value (all_rows inside next (c.as_slice-old.ensures.value ∙ c.reserve_rows.ensures.rows) c.as_slice-news.ensures.value) c.in_ok-enter.ensures.groups in
    let child_len = ap length children_are in
    let gone_len = ap length deleters_are in
    let deleted = rw (c.unwrap-3.ensures, c.reserve.ensures.items, next.changes.names) at c.append-2.ensures.items in
    let ended = rw (c.unwrap-4.ensures, c.reserve_rows.ensures.ends) at c.append-3.ensures.items in
    rw (rows_so, deleted, last, ended, c.in-Ok.ensures.children, c.in-Ok.ensures.deleters)
    (kept_next c.self.invariant valid refs refs_so next.changes.small places (c.len-first.result + c.len-more.result) c.recount.new.causes c.args.parents.now.ends.items c.recount.new.groups names
    at names_so (ends_are inside next) (omega (arith, c.len-first.ensures, c.len-more.ensures, few, sum)) (c.recount.auto.causes ∙ ap length (c.as_mut_slice-causes-2.ensures.value ∙ front) ∙ c.add_causes.auto.causes ∙ len)
    (omega (arith, child_len, c.grow_links.ensures.few_children)) (omega (arith, gone_len, c.grow_links.ensures.few_deleters)) settled
    (groups_moved grouped c.recount.new.groups (λ key. ap (λ v. first_of v key) c.recount.ensures.values) c.recount.ensures.numbers c.recount.ensures.least c.recount.ensures.nexts))
