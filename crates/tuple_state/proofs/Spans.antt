-- Where the links that come of one row stand among all.
use Rattle.std.proofs.Common.{◌≡◌, ℕ, zero, suc, ◌+◌, ◌-◌, ◌<◌, ◌≤◌, Bool, ◌&&◌, List, [], ◌∷◌, ◌++◌, length, get_or, map, take, drop, length-append, refl, sym, ap, ◌∙◌, Option, Some, arith}
use Rattle.std.specs.Prelude.{slice_get}
use Rattle.std.specs.List.{list_all}
use Rattle.std.proofs.Math.Seq.{drop-append-add, take-append_seam}
use Rattle.std.proofs.lemmas.List.{drop-map, length-map, take-append-drop, take-map, take_more}
use Rattle.update_model.specs.declared.row_name.RowName.{RowName}
use Rattle.table_model.specs.Visible.{RowRef, Rules, cascade_refs}
use Rattle.tuple_state.specs.Causes.{ends_from, parents_from}
use Rattle.tuple_state.specs.Kept.{deletes_at, pairs_of}
use Rattle.tuple_state.specs.Parents.{passes_place}
use Rattle.tuple_state.specs.State.{dropped_at, row_of}
use Rattle.tuple_state.specs.declared.dropped.Dropped.{Dropped}
use Rattle.tuple_state.specs.declared.inserted.Inserted.{Inserted}
use Rattle.tuple_state.specs.declared.links.Link.{Link}
use Rattle.tuple_state.proofs.Adding.{parents-append}
use Rattle.tuple_state.proofs.Deleting.{pair_parts}
use Rattle.tuple_state.proofs.Lookups.{get_or_from}
use Rattle.tuple_state.proofs.Marking.{slice_get_below}

-- the names that one row names
abbrev pub names_of : Rules → ℕ → Inserted → List Dropped
names_of rules place it = map (λ (r : RowRef). dropped_at place r.name) (cascade_refs rules (row_of it))

names_len : (rules : Rules) (place : ℕ) (it : Inserted) (more : List Dropped) → length (names_of rules place it ++ more) ≡ length (cascade_refs rules (row_of it)) + length more
names_len rules place it more =
    let a = length-append (names_of rules place it) more in
    let b = length-map (cascade_refs rules (row_of it)) (λ (r : RowRef). dropped_at place r.name) in
    omega (arith, a, b)

pub ends-append : (rules : Rules) (place from : ℕ) (xs ys : List Inserted) → ends_from rules from (xs ++ ys) ≡ ends_from rules from xs ++ ends_from rules (from + length (parents_from rules place xs)) ys
unfolding ends_from parents_from
ends-append rules place from [] ys = ap (λ n. ends_from rules n ys) (let e : from ≡ from + 0 = omega arith in e)
ends-append rules place from (x ∷ xs) ys =
    let m = length (cascade_refs rules (row_of x)) in
    let len = names_len rules place x (parents_from rules (place + 1) xs) in
    ap (λ l. (from + m) ∷ l) (ends-append rules (place + 1) (from + m) xs ys ∙ ap (λ n. ends_from rules (from + m) xs ++ ends_from rules n ys) (omega (arith, len)))

pub ends-take : (rules : Rules) (from n : ℕ) (rows : List Inserted) → take n (ends_from rules from rows) ≡ ends_from rules from (take n rows)
unfolding ends_from
ends-take rules from zero rows = refl
ends-take rules from (suc n) [] = refl
ends-take rules from (suc n) (x ∷ rows) = let m = length (cascade_refs rules (row_of x)) in ap (λ l. (from + m) ∷ l) (ends-take rules (from + m) n rows)

pub ends-length : (rules : Rules) (from : ℕ) (rows : List Inserted) → length (ends_from rules from rows) ≡ length rows
unfolding ends_from
ends-length rules from [] = refl
ends-length rules from (x ∷ rows) = let rest = ends-length rules (from + length (cascade_refs rules (row_of x))) rows in omega (arith, rest)

-- one more row
pub ends_step : (rules : Rules) (place from : ℕ) (rows : List Inserted) (n : ℕ) (it : Inserted) (ends : List ℕ) (end : ℕ) → n < length rows → it ≡ get_or rows n it → ends ≡ ends_from rules from (take n rows)
    → end ≡ from + length (parents_from rules place (take (n + 1) rows)) → ends ++ end ∷ [] ≡ ends_from rules from (take (n + 1) rows)
unfolding ends_from parents_from
ends_step rules place from rows n it ends end below is so at =
    let last : take (n + 1) rows ≡ take n rows ++ it ∷ [] = take_more rows n it below ∙ ap (λ (x : Inserted). take n rows ++ x ∷ []) (sym is) in
    let names = ap (λ l. length (parents_from rules place l)) last ∙ ap length (parents-append rules place (take n rows) (it ∷ [])) in
    let split = length-append (parents_from rules place (take n rows)) (parents_from rules (place + length (take n rows)) (it ∷ [])) in
    let own = names_len rules (place + length (take n rows)) it [] in
    let same : end ≡ from + length (parents_from rules place (take n rows)) + length (cascade_refs rules (row_of it)) = omega (arith, at, names, split, own) in
    (λ i. so i ++ same i ∷ []) ∙ sym (ap (ends_from rules from) last ∙ ends-append rules place from (take n rows) (it ∷ []))

-- how many names the rows before one name
abbrev pub before : Rules → List Inserted → ℕ → ℕ
before rules rows k = length (parents_from rules 0 (take k rows))

ends_at : (rules : Rules) (place from : ℕ) (rows : List Inserted) (k d : ℕ) → k < length rows → get_or (ends_from rules from rows) k d ≡ from + length (parents_from rules place (take (suc k) rows))
unfolding ends_from parents_from
ends_at rules place from [] k d below = absurd (omega (arith, below))
ends_at rules place from (x ∷ rows) zero d below = let len = names_len rules place x [] in omega (arith, len)
ends_at rules place from (x ∷ rows) (suc k) d below =
    let m = length (cascade_refs rules (row_of x)) in
    let rest = ends_at rules (place + 1) (from + m) rows k d (omega (arith, below)) in
    let len = names_len rules place x (parents_from rules (place + 1) (take (suc k) rows)) in
    omega (arith, rest, len)

names_between : (rules : Rules) (place : ℕ) (rows : List Inserted) (k : ℕ) (it : Inserted) → slice_get rows k ≡ Some it
    → take (length (cascade_refs rules (row_of it))) (drop (length (parents_from rules place (take k rows))) (parents_from rules place rows)) ≡ names_of rules (place + k) it
unfolding parents_from
names_between rules place [] k it at = absurd (cc)
names_between rules place (x ∷ rows) zero it at =
    let same : x ≡ it = cc in
    let len : length (cascade_refs rules (row_of it)) ≡ length (names_of rules place it) = sym (length-map (cascade_refs rules (row_of it)) (λ (r : RowRef). dropped_at place r.name)) in
    let here : place ≡ place + 0 = omega arith in
    (λ i. take (len i) (names_of rules place (same i) ++ parents_from rules (place + 1) rows)) ∙ take-append_seam (names_of rules place it) (parents_from rules (place + 1) rows) ∙ ap (λ p. names_of rules p it) here
names_between rules place (x ∷ rows) (suc k) it at =
    let front = names_of rules place x in
    let rest = parents_from rules (place + 1) rows in
    let short = parents_from rules (place + 1) (take k rows) in
    let there : place + 1 + k ≡ place + suc k = omega arith in
    ap (λ n. take (length (cascade_refs rules (row_of it))) (drop n (front ++ rest))) (length-append front short)
    ∙ ap (take (length (cascade_refs rules (row_of it)))) (drop-append-add front rest (length short))
    ∙ names_between rules (place + 1) rows k it at ∙ ap (λ p. names_of rules p it) there

pub begin_first : (rules : Rules) (rows : List Inserted) (k : ℕ) → k ≡ 0 → 0 ≡ before rules rows k
unfolding parents_from
begin_first rules rows k first = ap (before rules rows) (sym first)

pub begin_later : (rules : Rules) (rows : List Inserted) (ends : List ℕ) (k from d : ℕ) → ends ≡ ends_from rules 0 rows → k ≤ length rows → (k ≡ 0 → ⊥) → from ≡ get_or ends (k - 1) d → from ≡ before rules rows k
begin_later rules rows ends zero from d ended below later is = absurd (later refl)
begin_later rules rows ends (suc k) from d ended below later is =
    let e : suc k - 1 ≡ k = omega arith in
    let f : 0 + length (parents_from rules 0 (take (suc k) rows)) ≡ before rules rows (suc k) = omega arith in
    is ∙ ap (λ n. get_or ends n d) e ∙ ap (λ l. get_or l k d) ended ∙ ends_at rules 0 0 rows k d (omega (arith, below)) ∙ f

pub end_is : (rules : Rules) (rows : List Inserted) (ends : List ℕ) (k to d : ℕ) → ends ≡ ends_from rules 0 rows → k < length rows → to ≡ get_or ends k d → to ≡ before rules rows (k + 1)
end_is rules rows ends k to d ended below is = begin_later rules rows ends (k + 1) to d ended (omega (arith, below)) (λ e. omega (arith, e)) (is ∙ ap (λ n. get_or ends n d) (let e : k ≡ k + 1 - 1 = omega arith in e))

module _ (rules : Rules) (place : RowName → Option ℕ) (rows : List Inserted) (links : List Link) (named : pairs_of links ≡ deletes_at place (parents_from rules 0 rows)) (k : ℕ) (it : Inserted) (at : slice_get rows k ≡ Some it) where
  pub next_is : before rules rows (k + 1) ≡ before rules rows k + length (cascade_refs rules (row_of it))
  unfolding parents_from
  next_is =
      let below = slice_get_below rows k it at in
      let last : take (k + 1) rows ≡ take k rows ++ it ∷ [] = take_more rows k it below ∙ ap (λ (x : Inserted). take k rows ++ x ∷ []) (get_or_from rows k it it at) in
      let names = ap (λ l. length (parents_from rules 0 l)) last ∙ ap length (parents-append rules 0 (take k rows) (it ∷ [])) in
      let split = length-append (parents_from rules 0 (take k rows)) (parents_from rules (0 + length (take k rows)) (it ∷ [])) in
      let own = names_len rules (0 + length (take k rows)) it [] in
      omega (arith, names, split, own)

  pub rises : before rules rows k ≤ before rules rows (k + 1)
  rises = omega (arith, next_is)

  pub few : before rules rows (k + 1) ≤ length links
  few =
      let whole = ap (λ l. length (parents_from rules 0 l)) (sym (take-append-drop (k + 1) rows)) ∙ ap length (parents-append rules 0 (take (k + 1) rows) (drop (k + 1) rows)) in
      let split = length-append (parents_from rules 0 (take (k + 1) rows)) (parents_from rules (0 + length (take (k + 1) rows)) (drop (k + 1) rows)) in
      let a = ap length named in
      let b = length-map {B = Option ℕ × ℕ} links (λ (link : Link). (Some link.place, link.number)) in
      let c = length-map {B = Option ℕ × ℕ} (parents_from rules 0 rows) (λ (d : Dropped). (place d.name, d.position)) in
      omega (arith, whole, split, a, b, c)

  -- the links between are those of the names that it names
  pub span : pairs_of (take (before rules rows (k + 1) - before rules rows k) (drop (before rules rows k) links)) ≡ deletes_at place (names_of rules k it)
  span =
      let m = length (cascade_refs rules (row_of it)) in
      let n = before rules rows k in
      let size : before rules rows (k + 1) - n ≡ m = omega (arith, next_is) in
      ap (λ j. pairs_of (take j (drop n links))) size
      ∙ sym (take-map (λ (l : Link). (Some l.place, l.number)) m (drop n links)) ∙ ap (take m) (sym (drop-map (λ (l : Link). (Some l.place, l.number)) n links)) ∙ ap (λ l. take m (drop n l)) named
      ∙ ap (take m) (drop-map (λ (d : Dropped). (place d.name, d.position)) n (parents_from rules 0 rows)) ∙ take-map (λ (d : Dropped). (place d.name, d.position)) m (drop n (parents_from rules 0 rows))
      ∙ ap (deletes_at place) (names_between rules 0 rows k it at ∙ ap (λ p. names_of rules p it) (let e : 0 + k ≡ k = omega arith in e))

-- a test of the places of links is one of the rows that are named
pub links_tested : (place : RowName → Option ℕ) (k : ℕ) (links : List Link) (named : List RowRef) → pairs_of links ≡ deletes_at place (map (λ (r : RowRef). dropped_at k r.name) named)
    → (test : ℕ → Bool) → list_all (λ (l : Link). test l.place) links ≡ list_all (λ (r : RowRef). passes_place test (place r.name)) named
links_tested place k [] [] h test = refl
links_tested place k [] (r ∷ named) h test = absurd (cc)
links_tested place k (link ∷ links) [] h test = absurd (cc)
links_tested place k (link ∷ links) (r ∷ named) h test =
    let pair = pair_parts place link (dropped_at k r.name) links (map (λ (x : RowRef). dropped_at k x.name) named) h in
    λ i. passes_place test (pair.at i) && links_tested place k links named pair.rest test i
