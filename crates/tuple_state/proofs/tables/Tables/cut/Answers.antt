use Rattle.std.proofs.Common.{◌≡◌, ◌+◌, ◌++◌, ℕ, true, List, length, map, reverse, take, drop, get_or, nat_lt, ap, sym, subst, ◌∙◌, inl, inr, refl, arith}
use Rattle.std.specs.Prelude.{count_by}
use Rattle.std.proofs.lemmas.List.{length-take-le, take_at}
use Rattle.tuple_state.specs.Causes.{AreRising, absent_times, ends_from}
use Rattle.tuple_state.specs.Grouped.{AreGroupsOf}
use Rattle.tuple_state.specs.Kept.{IsKept, are_layered, place_of}
use Rattle.tuple_state.specs.Links.{Linked, are_inside, is_of}
use Rattle.tuple_state.specs.State.{IsCut, IsStateOf, State, keep_any, row_of, rules_of_state, state_of}
use Rattle.tuple_state.specs.Values.{first_of}
use Rattle.tuple_state.specs.declared.dropped.Dropped.{Dropped}
use Rattle.tuple_state.specs.declared.inserted.Inserted.{Inserted}
use Rattle.tuple_state.specs.declared.links.Link.{Link}
use Rattle.tuple_state.specs.declared.tables.Tables.TheInside.{Inside}
use Rattle.tuple_state.specs.declared.tables.Tables.TheView.{view}
use Rattle.tuple_state.specs.declared.voided.Voided.{Voided}
use Rattle.tuple_state.proofs.Fronts.{closed_back}
use Rattle.tuple_state.proofs.Marks.{fresh_layered}
use Rattle.tuple_state.proofs.Parting.{ends_each, parted, parted_moved}
use Rattle.tuple_state.proofs.Gathering.{groups_at, groups_moved}
use Rattle.tuple_state.proofs.Leasts.{plain_settled, settled_moved}
use Rattle.tuple_state.proofs.Levels.{level_moved}
use Rattle.tuple_state.specs.Least.{AreSettled}
use Rattle.std.proofs.lemmas.Bool.{cases_Bool}
use Rattle.tuple_state.proofs.Shortening.{children_inside, shapes_stay, count_old, ended_old, inside_old, kept_old, level_old, named_old, names_taken, parts_back, rising_old, rows_few, rows_len, rows_taken, voids_taken}
use Rattle.tuple_state.proofs.tables.Tables.cut.Goals as goal

-- ---- what is taken back, by what the tables hold inside

taken_back : (inside : Inside) {seen : State} {len : ℕ} → view inside ≡ seen → IsCut seen len → IsCut (view inside) len
taken_back inside is cut = record {
  rules = cut.rules;
  newer = cut.newer;
  older = cut.older;
  is = subst (λ (s : State). IsStateOf cut.rules (cut.newer ++ cut.older) s) (sym is) cut.is;
  at = cut.at;
}

-- how many rows, names and links are of the updates that stay
abbrev AreRowsBefore : Inside → ℕ → ℕ → Type 0
AreRowsBefore inside len n = n ≡ count_by (λ (x : Inserted). nat_lt x.position len) inside.rows.items

abbrev AreNamesBefore : Inside → ℕ → ℕ → Type 0
AreNamesBefore inside len n = n ≡ count_by (λ (x : Dropped). nat_lt x.position len) inside.dropped.items

abbrev AreLinksBefore : Inside → ℕ → ℕ → Type 0
AreLinksBefore inside rows n = n ≡ count_by (λ (x : Link). nat_lt x.number rows) inside.children.links

some_rows : (inside : Inside) (len n : ℕ) {slice : List Inserted} → n ≡ count_by (λ (x : Inserted). nat_lt x.position len) slice → slice ≡ inside.rows.items → AreRowsBefore inside len n
some_rows inside len n is so = is ∙ ap (count_by (λ (x : Inserted). nat_lt x.position len)) so

some_names : (inside : Inside) (len n : ℕ) {slice : List Dropped} → n ≡ count_by (λ (x : Dropped). nat_lt x.position len) slice → slice ≡ inside.dropped.items → AreNamesBefore inside len n
some_names inside len n is so = is ∙ ap (count_by (λ (x : Dropped). nat_lt x.position len)) so

some_links : (inside : Inside) (rows n : ℕ) {slice : List Link} → n ≡ count_by (λ (x : Link). nat_lt x.number rows) slice → slice ≡ inside.children.links → AreLinksBefore inside rows n
some_links inside rows n is so = is ∙ ap (count_by (λ (x : Link). nat_lt x.number rows)) so

-- ---- places and links

pub remove_places-requires-clause-fresh : goal.remove_places-requires-clause-fresh
remove_places-requires-clause-fresh c =
    let inside = c.self.inside in
    let n = c.rows_before-rows.result in
    let few = rows_few (taken_back inside c.self.view_is c.requires) n (some_rows inside c.args.len n c.rows_before-rows.ensures c.as_slice.ensures.value) in
    rw (c.as_slice-4.ensures.value, c.as_slice-5.ensures.value)
    (fresh_layered (rules_of_state (view inside)) (take n inside.rows.items) _
    (subst (λ (l : List Inserted). are_layered (rules_of_state (view inside)) (reverse (map row_of l)) ≡ true) (sym (parts_back n inside.rows.items few)) c.self.invariant.layered))

pub remove_places-requires-clause-placed : goal.remove_places-requires-clause-placed
remove_places-requires-clause-placed c name =
    let inside = c.self.inside in
    let n = c.rows_before-rows.result in
    let few = rows_few (taken_back inside c.self.view_is c.requires) n (some_rows inside c.args.len n c.rows_before-rows.ensures c.as_slice.ensures.value) in
    rw (c.as_slice-4.ensures.value, c.as_slice-5.ensures.value) (c.self.invariant.placed name ∙ ap (λ l. place_of l name) (sym (parts_back n inside.rows.items few)))

pub cut-requires-clause-inside : goal.cut-requires-clause-inside
cut-requires-clause-inside c =
    let inside = c.self.inside in
    let n = c.rows_before-rows.result in
    let names = c.names_before-names.result in
    inside_old (taken_back inside c.self.view_is c.requires) n names inside.deleters.links (some_rows inside c.args.len n c.rows_before-rows.ensures c.as_slice.ensures.value)
    (some_names inside c.args.len names c.names_before-names.ensures c.as_slice-2.ensures.value) c.self.invariant.deleted

pub cut-requires-2-clause-inside : goal.cut-requires-2-clause-inside
cut-requires-2-clause-inside c =
    let inside = c.self.inside in
    let n = c.rows_before-rows.result in
    let links = c.numbers_before-parents.result in
    children_inside (taken_back inside c.self.view_is c.requires) inside.children.links n links c.self.invariant.named (some_rows inside c.args.len n c.rows_before-rows.ensures c.as_slice.ensures.value)
    (some_links inside n links c.numbers_before-parents.ensures c.links.ensures.links)

pub count_numbers-requires-clause-rising : goal.count_numbers-requires-clause-rising
count_numbers-requires-clause-rising c =
    let inside = c.self.inside in
    let back = taken_back inside c.self.view_is c.requires in
    let n = c.rows_before-rows.result in
    let links = c.numbers_before-parents.result in
    let rows_is = some_rows inside c.args.len n c.rows_before-rows.ensures c.as_slice.ensures.value in
    let few = rows_few back n rows_is in
    let rising = rising_old back inside.children.links n links c.self.invariant.named rows_is (some_links inside n links c.numbers_before-parents.ensures c.links.ensures.links) in
    let stay : c.links-3.result.now ≡ take links inside.children.links = c.links-3.ensures.links ∙ ap (λ (d : Linked). d.links) c.cut-2.ensures in
    let size : length c.count_places.new.causes ≡ n =
    (let a = ap length c.as_mut_slice-causes.ensures.value in let b = ap length c.truncate-4.ensures.items in let d = length-take-le n inside.causes.items (omega (arith, few, c.self.invariant.each)) in
    omega (arith, a, b, d, c.clear.auto.causes, c.count_places.auto.causes)) in
    subst (λ (l : List Link). AreRising 0 (length c.count_places.new.causes) l) (sym stay) (subst (λ m. AreRising 0 m (take links inside.children.links)) (sym size) rising)

-- ---- causes

module _ (c : goal.After-grounds-1) where
  count_back : IsCut (view c.self.inside) c.args.len
  count_back = taken_back c.self.inside c.self.view_is c.requires

  count_rows : AreRowsBefore c.self.inside c.args.len c.rows_before-rows.result
  count_rows = some_rows c.self.inside c.args.len c.rows_before-rows.result c.rows_before-rows.ensures c.as_slice.ensures.value

  count_names : AreNamesBefore c.self.inside c.args.len c.names_before-names.result
  count_names = some_names c.self.inside c.args.len c.names_before-names.result c.names_before-names.ensures c.as_slice-2.ensures.value

  count_links : AreLinksBefore c.self.inside c.rows_before-rows.result c.numbers_before-parents.result
  count_links = some_links c.self.inside c.rows_before-rows.result c.numbers_before-parents.result c.numbers_before-parents.ensures c.links.ensures.links

  rows_now : c.new-grounds.result.rows.now ≡ take c.rows_before-rows.result c.self.inside.rows.items
  rows_now = c.new-grounds.ensures.rows ∙ c.truncate.ensures.items

  rows_old : c.new-grounds.result.rows.now ≡ (state_of count_back.rules count_back.older).inserted
  rows_old = rows_now ∙ rows_taken count_back c.rows_before-rows.result count_rows

  size_now : length c.new-grounds.result.rows.now ≡ c.rows_before-rows.result
  size_now = ap length rows_now ∙ length-take-le c.rows_before-rows.result c.self.inside.rows.items (rows_few count_back c.rows_before-rows.result count_rows)

  links_now : c.new-grounds.result.children.now ≡ take c.numbers_before-parents.result c.self.inside.children.links
  links_now = c.new-grounds.ensures.children ∙ ap (λ (d : Linked). d.links) c.cut-2.ensures

  shapes_now : c.new-grounds.result.shapes.now ≡ c.self.inside.shapes.items
  shapes_now = c.new-grounds.ensures.shapes ∙ c.as_slice-shapes.ensures.value

  ends_now : c.new-grounds.result.ends.now ≡ ends_from (rules_of_state (state_of count_back.rules count_back.older)) 0 (state_of count_back.rules count_back.older).inserted
  ends_now = c.new-grounds.ensures.ends ∙ c.truncate-5.ensures.items ∙ ended_old count_back c.rows_before-rows.result c.self.inside.ends.items c.self.invariant.ended count_rows

pub recount-requires-clause-rising : goal.recount-requires-clause-rising
recount-requires-clause-rising c =
    let rising = rising_old (count_back c) c.self.inside.children.links c.rows_before-rows.result c.numbers_before-parents.result c.self.invariant.named (count_rows c) (count_links c) in
    subst (λ (l : List Link). AreRising 0 (length c.new-grounds.result.rows.now) l) (sym (links_now c))
    (subst (λ m. AreRising 0 m (take c.numbers_before-parents.result c.self.inside.children.links)) (sym (size_now c)) rising)

pub recount-requires-clause-level : goal.recount-requires-clause-level
recount-requires-clause-level c =
    let old : State = state_of (count_back c).rules (count_back c).older in
    level_moved old.shapes _ old.inserted _ (take c.numbers_before-parents.result c.self.inside.children.links) _ (sym (shapes_now c ∙ shapes_stay (count_back c))) (sym (rows_old c)) (sym (links_now c))
    (level_old (count_back c) c.self.inside.children.links c.rows_before-rows.result c.numbers_before-parents.result c.self.invariant.named (count_rows c) (count_links c))

pub recount-requires-clause-ends : goal.recount-requires-clause-ends
recount-requires-clause-ends c =
    let old : State = state_of (count_back c).rules (count_back c).older in
    ends_each (rules_of_state old) old.inserted _ (ends_now c) ∙ sym (ap length (rows_old c))

pub recount-requires-clause-parted : goal.recount-requires-clause-parted
recount-requires-clause-parted c =
    let old : State = state_of (count_back c).rules (count_back c).older in
    let links = take c.numbers_before-parents.result c.self.inside.children.links in
    parted_moved links _ (ends_from (rules_of_state old) 0 old.inserted) _ (sym (links_now c)) (sym (ends_now c))
    (parted (rules_of_state old) (place_of old.inserted) old.inserted links (ends_from (rules_of_state old) 0 old.inserted)
    (named_old (count_back c) c.self.inside.children.links c.rows_before-rows.result c.numbers_before-parents.result c.self.invariant.named (count_rows c) (count_links c)) refl)

pub recount-requires-clause-inside : goal.recount-requires-clause-inside
recount-requires-clause-inside c =
    let gone = c.self.inside.deleters.links in
    let within = inside_old (count_back c) c.rows_before-rows.result c.names_before-names.result gone (count_rows c) (count_names c) c.self.invariant.deleted in
    subst (λ (l : List Link). are_inside (length c.new-grounds.result.rows.now) l ≡ true) (sym (ap (λ (d : Linked). d.links) c.cut.ensures))
    (subst (λ m. are_inside m (take c.names_before-names.result gone) ≡ true) (sym (size_now c)) within)

pub recount-requires-clause-groups : goal.recount-requires-clause-groups
recount-requires-clause-groups c =
    let inside = c.self.inside in
    groups_at (sym (shapes_now c)) (sym (rows_now c)) (c.cut-3.ensures inside.shapes.items inside.rows.items c.self.invariant.grouped)

-- ---- what is left

left : (c : goal.After-self-2-1) (cut : IsCut (view c.self.inside) c.args.len)
    → ◌≡◌ {A = State} (record { shapes = c.self.inside.shapes.items; count = c.args.len; inserted = c.truncate.new.self.items; dropped = c.truncate-2.new.self.items; voids = c.truncate-3.new.self.items }) (state_of cut.rules cut.older)
left c cut =
    let inside = c.self.inside in
    let rows_is = some_rows inside c.args.len c.rows_before-rows.result c.rows_before-rows.ensures c.as_slice.ensures.value in
    let names_is = some_names inside c.args.len c.names_before-names.result c.names_before-names.ensures c.as_slice-2.ensures.value in
    λ i. record {
      shapes = shapes_stay cut i;
      count = count_old cut i;
      inserted = (c.truncate.ensures.items ∙ rows_taken cut c.rows_before-rows.result rows_is) i;
      dropped = (c.truncate-2.ensures.items ∙ names_taken cut c.names_before-names.result names_is) i;
      voids = (c.truncate-3.ensures.items ∙ voids_taken cut c.voids_before-voids.result (c.voids_before-voids.ensures ∙ ap (count_by (λ (x : Voided). nat_lt x.position c.args.len)) c.as_slice-3.ensures.value)) i;
    }

pub returns : goal.returns
unfolding taken_back
returns c rules newer older is at = record {
  tables = is.tables;
  closed = closed_back newer older is.closed;
  is = left c (taken_back c.self.inside c.self.view_is (record { rules = rules; newer = newer; older = older; is = is; at = at }));
}

pub invariant_of-self : goal.invariant_of-self
invariant_of-self c =
    let inside = c.self.inside in
    let it = taken_back inside c.self.view_is c.requires in
    let n = c.rows_before-rows.result in
    let rows_is = some_rows inside c.args.len n c.rows_before-rows.ensures c.as_slice.ensures.value in
    let refs_is = some_links inside n c.numbers_before-parents.result c.numbers_before-parents.ensures c.links.ensures.links in
    let names_is = some_names inside c.args.len c.names_before-names.result c.names_before-names.ensures c.as_slice-2.ensures.value in
    let few = rows_few it n rows_is in
    let old : State = state_of it.rules it.older in
    let len_old = rows_len it n rows_is in
    let placed : (name : _) → _ ≡ place_of old.inserted name =
    λ name. c.remove_places.ensures name ∙ ap (λ (l : List Inserted). place_of (take n l) name) c.as_slice-4.ensures.value
    ∙ ap (λ l. place_of l name) (rows_taken it n rows_is) in
    let links3 : c.links-3.result.now ≡ take c.numbers_before-parents.result inside.children.links = c.links-3.ensures.links ∙ ap (λ (d : Linked). d.links) c.cut-2.ensures in
    let size : length c.count_places.new.causes ≡ c.rows_before-rows.result =
    (let a = ap length c.as_mut_slice-causes.ensures.value in let b = ap length c.truncate-4.ensures.items in let d = length-take-le c.rows_before-rows.result inside.causes.items (omega (arith, few, c.self.invariant.each)) in
    omega (arith, a, b, d, c.clear.auto.causes, c.count_places.auto.causes)) in
    let links2 : c.links-2.result.now ≡ take c.names_before-names.result inside.deleters.links = c.links-2.ensures.links ∙ ap (λ (d : Linked). d.links) c.cut.ensures in
    let front : take c.truncate-4.new.self.len (c.recount.new.causes ++ drop (length c.recount.new.causes) c.truncate-4.new.self.items) ≡ c.recount.new.causes =
    take_at c.recount.new.causes (drop (length c.recount.new.causes) c.truncate-4.new.self.items) c.truncate-4.new.self.len
    (c.recount.auto.causes ∙ c.count_numbers.auto.causes ∙ c.count_places.auto.causes ∙ c.clear.auto.causes ∙ c.as_mut_slice-causes.ensures.len) in
    let counts : (k : ℕ) → get_or c.count_numbers.new.causes k 0 ≡ count_by (is_of k) (take c.names_before-names.result inside.deleters.links) + absent_times (take c.numbers_before-parents.result inside.children.links) c.count_numbers.new.causes k =
    λ k.
    let a = c.clear.ensures k in
    let b = c.count_places.ensures k in
    let d = c.count_numbers.ensures k in
    let e = ap (λ (l : List Link). count_by (is_of k) l) links2 in
    let f = ap (λ (l : List Link). absent_times l c.count_numbers.new.causes k) links3 in
    omega (arith, a, b, d, e, f) in
    let shapes_now : c.new-grounds.result.shapes.now ≡ old.shapes = (c.new-grounds.ensures.shapes ∙ c.as_slice-shapes.ensures.value) ∙ shapes_stay it in
    let rows_now : c.new-grounds.result.rows.now ≡ old.inserted = c.new-grounds.ensures.rows ∙ c.truncate.ensures.items ∙ rows_taken it n rows_is in
    let settled : AreSettled old.shapes old.inserted (take c.numbers_before-parents.result inside.children.links) (λ k. count_by (is_of k) (take c.names_before-names.result inside.deleters.links)) c.recount.new.causes =
    elim (cases_Bool (keep_any old.shapes)) [
      | inl keeps ↦
          settled_moved _ old.shapes _ old.inserted _ _ _ _ c.recount.new.causes shapes_now rows_now (c.new-grounds.ensures.children ∙ ap (λ (d : Linked). d.links) c.cut-2.ensures) (ap (λ (d : Linked). d.links) c.cut.ensures)
          (c.recount.ensures.counted (ap keep_any shapes_now ∙ keeps))
      | inr plain ↦
          plain_settled old.shapes old.inserted (take c.numbers_before-parents.result inside.children.links) (λ k. count_by (is_of k) (take c.names_before-names.result inside.deleters.links)) c.recount.new.causes plain
          (subst (λ (l : List ℕ). (k : ℕ) → get_or l k 0 ≡ count_by (is_of k) (take c.names_before-names.result inside.deleters.links) + absent_times (take c.numbers_before-parents.result inside.children.links) l k)
          (sym (c.recount.ensures.plain (ap keep_any shapes_now ∙ plain))) counts)
    ] in
    let grouped : AreGroupsOf old.shapes old.inserted c.cut-3.new.self = groups_at (shapes_stay it) (rows_taken it n rows_is) (c.cut-3.ensures inside.shapes.items inside.rows.items c.self.invariant.grouped) in
    subst (λ (s : State). IsKept s c.remove_places.new.places (take c.truncate-4.new.self.len (c.recount.new.causes ++ drop (length c.recount.new.causes) c.truncate-4.new.self.items)) c.cut-2.new.self c.cut.new.self c.truncate-5.new.self.items
    c.recount.new.groups)
    (sym (left c it))
    (rw (front, c.cut.ensures, c.cut-2.ensures, c.truncate-5.ensures.items)
    (kept_old it inside.places c.remove_places.new.places inside.causes.items c.recount.new.causes inside.children inside.deleters inside.ends.items inside.groups c.recount.new.groups
    n c.names_before-names.result c.numbers_before-parents.result
    c.self.invariant rows_is names_is refs_is placed (c.recount.auto.causes ∙ c.count_numbers.auto.causes ∙ size ∙ len_old) settled
    (groups_moved grouped c.recount.new.groups (λ key. ap (λ v. first_of v key) c.recount.ensures.values) c.recount.ensures.numbers c.recount.ensures.least c.recount.ensures.nexts)))
