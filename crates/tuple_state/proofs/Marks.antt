-- Places of layered rows.
use Rattle.tuple_state.specs.declared.shape.Shape.{Shape}
use Rattle.std.proofs.Common.{◌≡◌, ℕ, zero, suc, ◌+◌, ◌<◌, ◌==◌, Bool, true, false, cond, ◌&&◌, ◌||◌, List, [], ◌∷◌, ◌++◌, length, get_or, take, map, reverse, refl, sym, ap, ◌∙◌, subst, append_assoc, Option, Some, None, zero-add, length-append, arith}
use Rattle.std.specs.Prelude.{slice_get, is_some, unwrap_or, Result, Ok, Err, is_err, OnOk}
use Rattle.std.specs.declared.cmp.Ordering.{Ordering}
use Rattle.std.specs.declared.cmp.Ordering.TheVariants.{Less, Equal, Greater}
use Rattle.std.specs.Ordering.{is_eq, nat_cmp, ordering_then}
use Rattle.std.specs.List.{list_any, list_all, position_from}
use Rattle.std.proofs.lemmas.Bool.{and_parts, or_parts}
use Rattle.std.proofs.lemmas.Bool.Decides.{nat_tests}
use Rattle.std.proofs.lemmas.List.{reverse-append, map-append, append-nil, take_more, length-take-le}
use Rattle.update_model.specs.declared.row_name.RowName.{RowName}
use Rattle.update_model.specs.Entry.{id_cmp}
use Rattle.update_model.proofs.Closed.{is_some-position, position_from-push}
use Rattle.table_model.specs.Tables.{name_cmp}
use Rattle.schema.specs.Numbers.{no_table}
use Rattle.table_model.specs.Visible.{Rules, TableRow, RowRef, same_row, cascade_refs}
use Rattle.table_model.proofs.Standing.{row_from_same, same_row-refl}
use Rattle.tuple_state.specs.declared.inserted.Inserted.{Inserted}
use Rattle.tuple_state.specs.Kept.{are_layered, is_named, place_of}
use Rattle.tuple_state.specs.Parents.{AreFresh, columns_at}
use Rattle.tuple_state.specs.State.{row_of, rules_over, table_with}
use Rattle.tuple_state.proofs.Layers.{layer_parts}
use Rattle.tuple_state.proofs.Lookups.{reverse_cons, named_reversed}

-- ---- names and their order

index_same : (a b : ℕ) → is_eq (nat_cmp a b) ≡ (a == b)
index_same a b = grind (arith, nat_tests)

pub eq_is_same : (a b : RowName) → is_eq (name_cmp a b) ≡ same_row a b
eq_is_same a b =
    let step : (o : Ordering) → is_eq (ordering_then o (nat_cmp a.index b.index)) ≡ (is_eq o && (a.index == b.index)) =
    elim [ Less ↦ refl | Equal ↦ index_same a.index b.index | Greater ↦ refl ] in
    step (id_cmp a.update b.update)

-- ---- the place of one more row

none_from_test : (o : Option ℕ) → is_some o ≡ false → o ≡ None
none_from_test None h = refl
none_from_test (Some k) h = absurd (cc)

with_last : (s h : Bool) (n : ℕ) (o : Option ℕ) → is_some o ≡ h → (s ≡ true → h ≡ false) → cond s (Some n) o ≡ cond h o (cond s (Some n) None)
with_last true true n o found new = absurd (let e = new refl in cc)
with_last true false n o found new = refl
with_last false true n o found new = refl
with_last false false n o found new = none_from_test o found

without_last : (s h : Bool) (n : ℕ) (o : Option ℕ) → is_some o ≡ h → (s ≡ true → h ≡ false) → cond s None (cond h o (cond s (Some n) None)) ≡ o
without_last true true n o found new = absurd (let e = new refl in cc)
without_last true false n o found new = sym (none_from_test o found)
without_last false true n o found new = refl
without_last false false n o found new = sym (none_from_test o found)

module _ (rows : List Inserted) (it : Inserted) (q : RowName) (new : list_any (λ (row : Inserted). same_row row.name it.name) rows ≡ false) where
  place_last : place_of (rows ++ it ∷ []) q ≡ cond (list_any (λ (row : Inserted). same_row row.name q) rows) (place_of rows q) (cond (same_row it.name q) (Some (length rows)) None)
  place_last =
      position_from-push (λ (row : Inserted). same_row row.name q) 0 rows it
      ∙ ap (λ n. cond (list_any (λ (row : Inserted). same_row row.name q) rows) (place_of rows q) (cond (same_row it.name q) (Some n) None)) (zero-add (length rows))

  absent : same_row it.name q ≡ true → list_any (λ (row : Inserted). same_row row.name q) rows ≡ false
  absent same = subst (λ (n : RowName). list_any (λ (row : Inserted). same_row row.name n) rows ≡ false) (row_from_same it.name q same) new

  pub place_push : cond (same_row it.name q) (Some (length rows)) (place_of rows q) ≡ place_of (rows ++ it ∷ []) q
  place_push =
      with_last (same_row it.name q) (list_any (λ (row : Inserted). same_row row.name q) rows) (length rows) (place_of rows q)
      (is_some-position (λ (row : Inserted). same_row row.name q) 0 rows) absent ∙ sym place_last

  pub place_pop : cond (same_row it.name q) None (place_of (rows ++ it ∷ []) q) ≡ place_of rows q
  place_pop =
      ap (λ o. cond (same_row it.name q) None o) place_last
      ∙ without_last (same_row it.name q) (list_any (λ (row : Inserted). same_row row.name q) rows) (length rows) (place_of rows q)
      (is_some-position (λ (row : Inserted). same_row row.name q) 0 rows) absent

-- ---- fresh rows

pub fresh_take : (rows more : List Inserted) (n : ℕ) → AreFresh rows more → AreFresh rows (take n more)
unfolding AreFresh
fresh_take rows more zero f = tt
fresh_take rows [] (suc n) f = tt
fresh_take rows (it ∷ more) (suc n) f = (f.0, fresh_take (rows ++ it ∷ []) more n f.1)

pub fresh_at : (rows more : List Inserted) (n : ℕ) (d : Inserted) → AreFresh rows more → n < length more → list_any (λ (row : Inserted). same_row row.name (get_or more n d).name) (rows ++ take n more) ≡ false
unfolding AreFresh
fresh_at rows [] n d f below = absurd (omega (arith, below))
fresh_at rows (it ∷ more) zero d f below = ap (list_any (λ (row : Inserted). same_row row.name it.name)) (append-nil rows) ∙ f.0
fresh_at rows (it ∷ more) (suc n) d f below =
    ap (list_any (λ (row : Inserted). same_row row.name (get_or more n d).name)) (sym (append_assoc rows (it ∷ []) (take n more))) ∙ fresh_at (rows ++ it ∷ []) more n d f.1 (omega (arith, below))

take_last : (xs : List Inserted) (n : ℕ) (x : Inserted) → n < length xs → x ≡ get_or xs n x → take (n + 1) xs ≡ take n xs ++ x ∷ []
take_last xs n x below is = take_more xs n x below ∙ ap (λ (y : Inserted). take n xs ++ y ∷ []) (sym is)

-- the places after one more
pub places_step : (rows inserted : List Inserted) (n : ℕ) (it : Inserted) (key q : RowName) (place : ℕ) (old new : Option ℕ) → AreFresh rows inserted → n < length inserted → it ≡ get_or inserted n it
    → old ≡ place_of (rows ++ take n inserted) q → place ≡ length rows + n → key ≡ it.name → new ≡ cond (is_eq (name_cmp key q)) (Some place) old → new ≡ place_of (rows ++ take (n + 1) inserted) q
places_step rows inserted n it key q place old new fresh below is held at named updated =
    let free : list_any (λ (row : Inserted). same_row row.name it.name) (rows ++ take n inserted) ≡ false =
    subst (λ (x : Inserted). list_any (λ (row : Inserted). same_row row.name x.name) (rows ++ take n inserted) ≡ false) (sym is) (fresh_at rows inserted n it fresh below) in
    let len : place ≡ length (rows ++ take n inserted) = omega (arith, at, length-append rows (take n inserted), length-take-le n inserted (omega (arith, below))) in
    updated ∙ (λ i. cond ((ap (λ (k : RowName). is_eq (name_cmp k q)) named ∙ eq_is_same it.name q) i) (Some (len i)) (held i)) ∙ place_push (rows ++ take n inserted) it q free
    ∙ ap (λ l. place_of l q) (append_assoc rows (take n inserted) (it ∷ []) ∙ ap (λ l. rows ++ l) (sym (take_last inserted n it below is)))

-- the places after one fewer
pub places_back : (rows taken : List Inserted) (n m : ℕ) (it : Inserted) (key q : RowName) (old new : Option ℕ) → AreFresh rows taken → n < length taken → m ≡ n + 1 → it ≡ get_or taken n it
    → old ≡ place_of (rows ++ take m taken) q → key ≡ it.name → new ≡ cond (is_eq (name_cmp key q)) None old → new ≡ place_of (rows ++ take n taken) q
places_back rows taken n m it key q old new fresh below next is held named updated =
    let free : list_any (λ (row : Inserted). same_row row.name it.name) (rows ++ take n taken) ≡ false =
    subst (λ (x : Inserted). list_any (λ (row : Inserted). same_row row.name x.name) (rows ++ take n taken) ≡ false) (sym is) (fresh_at rows taken n it fresh below) in
    let more : rows ++ take m taken ≡ (rows ++ take n taken) ++ it ∷ [] = ap (λ k. rows ++ take k taken) next ∙ ap (λ l. rows ++ l) (take_last taken n it below is) ∙ sym (append_assoc rows (take n taken) (it ∷ [])) in
    updated ∙ (λ i. cond ((ap (λ (k : RowName). is_eq (name_cmp k q)) named ∙ eq_is_same it.name q) i) None ((held ∙ ap (λ l. place_of l q) more) i)) ∙ place_pop (rows ++ take n taken) it q free

-- ---- a row among others

pub record Split (rows : List Inserted) (k : ℕ) (it : Inserted) : Type 0 where
  pub before : List Inserted
  pub after : List Inserted
  pub is : rows ≡ before ++ it ∷ after
  pub len : length before ≡ k

pub split_at : (rows : List Inserted) (k : ℕ) (it : Inserted) → slice_get rows k ≡ Some it → Split rows k it
split_at [] k it h = absurd (cc)
split_at (row ∷ rows) zero it h = let same : row ≡ it = cc in record { before = []; after = rows; is = ap (λ (r : Inserted). r ∷ rows) same; len = refl }
split_at (row ∷ rows) (suc k) it h =
    let rest = split_at rows k it h in record { before = row ∷ rest.before; after = rest.after; is = ap (λ l. row ∷ l) rest.is; len = ap suc rest.len }

split_reversed : (before after : List Inserted) (it : Inserted) → reverse (map row_of (before ++ it ∷ after)) ≡ reverse (map row_of after) ++ row_of it ∷ reverse (map row_of before)
split_reversed before after it =
    ap reverse (map-append row_of before (it ∷ after)) ∙ reverse-append (map row_of before) (row_of it ∷ map row_of after)
    ∙ ap (λ l. l ++ reverse (map row_of before)) (reverse_cons (row_of it) (map row_of after)) ∙ append_assoc (reverse (map row_of after)) (row_of it ∷ []) (reverse (map row_of before))

layered_suffix : (rules : Rules) (xs ys : List TableRow) → are_layered rules (xs ++ ys) ≡ true → are_layered rules ys ≡ true
layered_suffix rules [] ys h = h
layered_suffix rules (x ∷ xs) ys h = layered_suffix rules xs ys (layer_parts rules (xs ++ ys) x h).rest

layered_split : (rules : Rules) (before after : List Inserted) (it : Inserted) → are_layered rules (reverse (map row_of (before ++ it ∷ after))) ≡ true → are_layered rules (row_of it ∷ reverse (map row_of before)) ≡ true
layered_split rules before after it h =
    layered_suffix rules (reverse (map row_of after)) (row_of it ∷ reverse (map row_of before)) (subst (λ (l : List TableRow). are_layered rules l ≡ true) (split_reversed before after it) h)

-- layered rows are fresh one after another
pub fresh_layered : (rules : Rules) (before rows : List Inserted) → are_layered rules (reverse (map row_of (before ++ rows))) ≡ true → AreFresh before rows
unfolding AreFresh
fresh_layered rules before [] h = tt
fresh_layered rules before (it ∷ rows) h =
    let layer = layer_parts rules (reverse (map row_of before)) (row_of it) (layered_split rules before rows it h) in
    (sym (named_reversed before it.name) ∙ layer.new, fresh_layered rules (before ++ it ∷ []) rows (subst (λ l. are_layered rules (reverse (map row_of l)) ≡ true) (sym (append_assoc before (it ∷ []) rows)) h))

position_after : {X : Type 0} (t : X → Bool) (i : ℕ) (before after : List X) (x : X) → list_any t before ≡ false → t x ≡ true → position_from t i (before ++ x ∷ after) ≡ Some (i + length before)
position_after t i [] after x none here = ap (λ b. cond b (Some i) (position_from t (i + 1) after)) here ∙ ap Some (omega arith)
position_after t i (y ∷ before) after x none here =
    let parts = or_parts (t y) _ none in
    ap (λ b. cond b (Some i) (position_from t (i + 1) (before ++ x ∷ after))) parts.0 ∙ position_after t (i + 1) before after x parts.1 here ∙ ap Some (omega arith)

-- each row is found by its name
pub found_layered : (rules : Rules) (rows : List Inserted) → are_layered rules (reverse (map row_of rows)) ≡ true → (k : ℕ) (it : Inserted) → slice_get rows k ≡ Some it → place_of rows it.name ≡ Some k
found_layered rules rows h k it at =
    let s = split_at rows k it at in
    let layer = layer_parts rules (reverse (map row_of s.before)) (row_of it) (layered_split rules s.before s.after it (subst (λ l. are_layered rules (reverse (map row_of l)) ≡ true) s.is h)) in
    ap (λ l. place_of l it.name) s.is
    ∙ position_after (λ (row : Inserted). same_row row.name it.name) 0 s.before s.after it (sym (named_reversed s.before it.name) ∙ layer.new) (same_row-refl it.name) ∙ ap Some (omega (arith, s.len))

-- ---- the rows that a row names

pub columns_there : (shapes : List Shape) (number : ℕ) → (unwrap_or (slice_get (map table_with shapes) number) no_table).columns ≡ columns_at shapes number
columns_there [] number = refl
columns_there (shape ∷ shapes) zero = refl
columns_there (shape ∷ shapes) (suc number) = columns_there shapes number

-- tests that agree on what is named
all_agree : (p q : RowRef → Bool) (n : RowRef → Bool) → ((r : RowRef) → n r ≡ true → p r ≡ q r) → (rs : List RowRef) → list_all n rs ≡ true → list_all p rs ≡ list_all q rs
all_agree p q n h [] a = refl
all_agree p q n h (r ∷ rs) a = let parts = and_parts (n r) _ a in λ i. h r parts.0 i && all_agree p q n h rs parts.1 i

found_before : {X : Type 0} (t : X → Bool) (i : ℕ) (before after : List X) → list_any t before ≡ true → (k : ℕ) × (position_from t i (before ++ after) ≡ Some k) × (k < i + length before)
found_before t i [] after h = absurd (cc)
found_before t i (x ∷ before) after h =
    let step : (b : Bool) → t x ≡ b → (b || list_any t before) ≡ true → (k : ℕ) × (cond b (Some i) (position_from t (i + 1) (before ++ after)) ≡ Some k) × (k < i + length (x ∷ before)) =
    elim [
      | true ↦ λ e g. (i, refl, omega arith)
      | false ↦ λ e g. let rest = found_before t (i + 1) before after g in (rest.0, rest.1, omega (arith, rest.2))
    ] in
    step (t x) refl h

-- of a layered row, each row that it names by CASCADE stands before it
pub named_before : (shapes : List Shape) (rows : List Inserted) → are_layered (rules_over shapes) (reverse (map row_of rows)) ≡ true → (p q : RowName → Bool) (k : ℕ) (it : Inserted) → slice_get rows k ≡ Some it
    → ((j : ℕ) (name : RowName) → place_of rows name ≡ Some j → j < k → p name ≡ q name)
    → list_all (λ r. p r.name) (cascade_refs (rules_over shapes) (row_of it)) ≡ list_all (λ r. q r.name) (cascade_refs (rules_over shapes) (row_of it))
named_before shapes rows h p q k it at agree =
    let s = split_at rows k it at in
    let layer = layer_parts (rules_over shapes) (reverse (map row_of s.before)) (row_of it)
    (layered_split (rules_over shapes) s.before s.after it (subst (λ l. are_layered (rules_over shapes) (reverse (map row_of l)) ≡ true) s.is h)) in
    all_agree (λ r. p r.name) (λ r. q r.name) (λ r. is_named (reverse (map row_of s.before)) r.name)
    (λ r there.
    let f = found_before (λ (row : Inserted). same_row row.name r.name) 0 s.before (it ∷ s.after) (sym (named_reversed s.before r.name) ∙ there) in
    agree f.0 r.name (ap (λ l. place_of l r.name) s.is ∙ f.1) (omega (arith, f.2, s.len)))
    (cascade_refs (rules_over shapes) (row_of it)) layer.refers

-- what holds on `Ok`, where there is no `Err`
pub ok_gives : {T E P : Type 0} (r : Result T E) → is_err r ≡ false → OnOk r P → P
ok_gives (Ok x) _ given = given
ok_gives (Err e) none given = absurd (cc)
