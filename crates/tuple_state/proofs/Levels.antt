-- Each row rests on rows of earlier tables, or on those of its own that keeps no least row.
use Rattle.std.proofs.Common.{◌≡◌, ℕ, zero, suc, ◌+◌, ◌<◌, true, false, ◌&&◌, nat_le, List, [], ◌∷◌, length, map, reverse, refl, sym, ap, ◌∙◌, subst, Some, arith}
use Rattle.std.specs.Prelude.{slice_get}
use Rattle.std.specs.List.{list_any, list_all, AllByRecursion}
use Rattle.std.proofs.lemmas.Bool.{and_parts, and_from, leb-true, or_right}
use Rattle.std.proofs.lemmas.List.{length-map}
use Rattle.update_model.specs.declared.row_name.RowName.{RowName}
use Rattle.update_model.specs.Node.{NodeData}
use Rattle.table_model.specs.Verdicts.{effects_in}
use Rattle.table_model.specs.Visible.{Effects, RowRef, Rules, TableRow, cascade_refs, same_row}
use Rattle.table_model.proofs.Each.{each-append}
use Rattle.table_model.proofs.Founded.{Founded, all_weaker, founded_closed}
use Rattle.table_model.proofs.Settled.{are_resting, rests_on}
use Rattle.table_model.proofs.Standing.{each-map}
use Rattle.tuple_state.specs.declared.dropped.Dropped.{Dropped}
use Rattle.tuple_state.specs.declared.inserted.Inserted.{Inserted}
use Rattle.tuple_state.specs.declared.links.Link.{Link}
use Rattle.tuple_state.specs.declared.shape.Shape.{Shape}
use Rattle.tuple_state.specs.Causes.{parents_from}
use Rattle.tuple_state.specs.Kept.{are_layered, deletes_at, pairs_of, place_of}
use Rattle.tuple_state.specs.Least.{AreLevel, is_level}
use Rattle.tuple_state.specs.State.{IsStateOf, State, done_in, dropped_at, row_of, rules_of_state, rules_over, shape_of}
use Rattle.tuple_state.proofs.Deleting.{pair_parts}
use Rattle.tuple_state.proofs.Effects.{shapes_are}
use Rattle.tuple_state.proofs.Layers.{Stands, each_stands}
use Rattle.tuple_state.proofs.Lookups.{did_same, resting_now, row_found}
use Rattle.tuple_state.proofs.Regrowth.{row_has}

one_at : (rows : List Inserted) (k : ℕ) (a b : Inserted) → slice_get rows k ≡ Some a → slice_get rows k ≡ Some b → a ≡ b
one_at rows k a b x y = let same : Some a ≡ Some b = sym x ∙ y in cc

-- ---- each row is of a table of the schema

each_known : (rules : Rules) (rows : List TableRow) → Founded rules rows → AllByRecursion (λ row. nat_le (length rules.tables) row.table ≡ false) rows
each_known rules [] f = tt
each_known rules (row ∷ older) f = (f.0.known, each_known rules older f.1)

known_now : (rules : Rules) (nodes : List NodeData) (state : State) → IsStateOf rules nodes state → (k : ℕ) (it : Inserted) → slice_get state.inserted k ≡ Some it → it.entry.table < length state.shapes
known_now rules nodes state held k it at =
    let each = subst (λ (g : Effects). AllByRecursion (λ row. nat_le (length rules.tables) row.table ≡ false) g.inserted) (sym (did_same rules nodes state held))
    (each_known rules (effects_in rules nodes).inserted (founded_closed rules nodes held.closed).founded) in
    let one = row_has (λ row. nat_le (length rules.tables) row.table ≡ false) state.inserted k it each at in
    let len = ap length (ap (λ (s : State). s.shapes) held.is ∙ shapes_are rules nodes) ∙ length-map rules.tables shape_of in
    let below = Rattle.std.proofs.lemmas.Bool.leb-false (length rules.tables) it.entry.table one in
    omega (arith, below, len)

-- ---- each row rests on those that it names

each_rests : (rules : Rules) (rows : List TableRow) → are_resting rules rows ≡ true
    → AllByRecursion (λ e. list_all (λ r. list_any (λ x. same_row x.name r.name && rests_on rules e x) rows) (cascade_refs rules e) ≡ true) rows
each_rests rules [] h = tt
each_rests rules (row ∷ older) h =
    let parts = and_parts (list_all (λ r. list_any (λ x. same_row x.name r.name && rests_on rules row x) older) (cascade_refs rules row)) _ h in
    let more : (e : TableRow) → list_all (λ r. list_any (λ x. same_row x.name r.name && rests_on rules e x) older) (cascade_refs rules e) ≡ true
    → list_all (λ r. list_any (λ x. same_row x.name r.name && rests_on rules e x) (row ∷ older)) (cascade_refs rules e) ≡ true =
    λ e. all_weaker (λ r. list_any (λ x. same_row x.name r.name && rests_on rules e x) older) (λ r. list_any (λ x. same_row x.name r.name && rests_on rules e x) (row ∷ older))
    (λ r. or_right (same_row row.name r.name && rests_on rules e row) _) (cascade_refs rules e) in
    (more row parts.0, each-map _ _ more older (each_rests rules older parts.1))

module _ (shapes : List Shape) (rows : List Inserted) (layered : are_layered (rules_over shapes) (reverse (map row_of rows)) ≡ true) (rest : are_resting (rules_over shapes) (reverse (map row_of rows)) ≡ true) where
  -- the row that a name is kept for rests on a row with the name
  abbrev Rests : Dropped → Type 0
  Rests d = (it : Inserted) → slice_get rows d.position ≡ Some it → list_any (λ x. same_row x.name d.name && rests_on (rules_over shapes) (row_of it) x) (reverse (map row_of rows)) ≡ true

  refs_rest : (p : ℕ) (it : Inserted) → slice_get rows p ≡ Some it → (rs : List RowRef)
      → list_all (λ r. list_any (λ x. same_row x.name r.name && rests_on (rules_over shapes) (row_of it) x) (reverse (map row_of rows))) rs ≡ true
      → AllByRecursion Rests (map (λ (r : RowRef). dropped_at p r.name) rs)
  refs_rest p it at [] h = tt
  refs_rest p it at (r ∷ rs) h =
      let parts = and_parts (list_any (λ x. same_row x.name r.name && rests_on (rules_over shapes) (row_of it) x) (reverse (map row_of rows))) _ h in (
        (λ other there. subst (λ (y : Inserted). list_any (λ x. same_row x.name r.name && rests_on (rules_over shapes) (row_of y) x) (reverse (map row_of rows)) ≡ true) (one_at rows p it other at there) parts.0),
        refs_rest p it at rs parts.1,
      )

  names_rest : (p : ℕ) (after : List Inserted) → ((m : ℕ) (it : Inserted) → slice_get after m ≡ Some it → slice_get rows (p + m) ≡ Some it) → AllByRecursion Rests (parents_from (rules_over shapes) p after)
  unfolding parents_from
  names_rest p [] at = tt
  names_rest p (it ∷ after) at =
      let there : slice_get rows p ≡ Some it = ap (slice_get rows) (let e : p ≡ p + 0 = omega arith in e) ∙ at 0 it refl in
      each-append Rests (map (λ (r : RowRef). dropped_at p r.name) (cascade_refs (rules_over shapes) (row_of it))) (parents_from (rules_over shapes) (p + 1) after)
      (refs_rest p it there (cascade_refs (rules_over shapes) (row_of it)) (row_has (λ e. list_all (λ r. list_any (λ x. same_row x.name r.name && rests_on (rules_over shapes) e x) (reverse (map row_of rows))) (cascade_refs (rules_over shapes) e) ≡ true)
      rows p it (each_rests (rules_over shapes) (reverse (map row_of rows)) rest) there))
      (names_rest (p + 1) after (λ m x h. ap (slice_get rows) (let e : p + 1 + m ≡ p + suc m = omega arith in e) ∙ at (suc m) x h))

  links_rest : (links : List Link) (names : List Dropped) → pairs_of links ≡ deletes_at (place_of rows) names → AllByRecursion Rests names → (n k : ℕ) (link : Link) (it other : Inserted) → slice_get links n ≡ Some link → link.number ≡ k
      → slice_get rows k ≡ Some it → slice_get rows link.place ≡ Some other → is_level shapes it other ≡ true
  links_rest [] names h each n k link it other at number here there = absurd (cc)
  links_rest (l ∷ links) [] h each n k link it other at number here there = absurd (cc)
  links_rest (l ∷ links) (d ∷ names) h each zero k link it other at number here there =
      let same : l ≡ link = cc in
      let pair = pair_parts (place_of rows) l d links names h in
      let row = row_found rows d.name l.place (sym pair.at) in
      let one : row.it ≡ other = one_at rows l.place row.it other row.at (ap (λ (x : Link). slice_get rows x.place) same ∙ there) in
      let named : d.name ≡ other.name = sym row.name_is ∙ ap (λ (x : Inserted). x.name) one in
      let place : d.position ≡ k = sym pair.number ∙ ap (λ (x : Link). x.number) same ∙ number in
      let some = each.0 it (ap (slice_get rows) place ∙ here) in
      let stands = row_has (Stands (reverse (map row_of rows))) rows link.place other (each_stands (rules_over shapes) (reverse (map row_of rows)) layered) there in
      stands.only (λ x. rests_on (rules_over shapes) (row_of it) x)
      (subst (λ (m : RowName). list_any (λ x. same_row x.name m && rests_on (rules_over shapes) (row_of it) x) (reverse (map row_of rows)) ≡ true) named some)
  links_rest (l ∷ links) (d ∷ names) h each (suc n) k link it other at number here there =
      let pair = pair_parts (place_of rows) l d links names h in
      links_rest links names pair.rest each.1 n k link it other at number here there

pub level_now : (rules : Rules) (nodes : List NodeData) (state : State) → IsStateOf rules nodes state → are_layered (rules_of_state state) (done_in state).inserted ≡ true → (links : List Link)
    → pairs_of links ≡ deletes_at (place_of state.inserted) (parents_from (rules_of_state state) 0 state.inserted) → AreLevel state.shapes state.inserted links
level_now rules nodes state held layered links named = record {
  known = known_now rules nodes state held;
  level = λ n k link it other at number here there.
      let rest = resting_now rules nodes state held in
      links_rest state.shapes state.inserted layered rest links (parents_from (rules_of_state state) 0 state.inserted) named
      (names_rest state.shapes state.inserted layered rest 0 state.inserted (λ m x h. ap (slice_get state.inserted) (let e : 0 + m ≡ m = omega arith in e) ∙ h)) n k link it other at number here there;
}

pub level_moved : (shapes more : List Shape) (rows others : List Inserted) (links names : List Link) → shapes ≡ more → rows ≡ others → links ≡ names → AreLevel shapes rows links → AreLevel more others names
level_moved shapes more rows others links names a b d l =
    subst (λ (x : List Link). AreLevel more others x) d (subst (λ (x : List Inserted). AreLevel more x links) b (subst (λ (x : List Shape). AreLevel x rows links) a l))
