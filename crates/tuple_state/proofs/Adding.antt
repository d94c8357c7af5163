-- The links from rows to those that name them.
use Rattle.tuple_state.specs.declared.shape.Shape.{Shape}
use Rattle.std.proofs.Common.{◌≡◌, ℕ, suc, ◌+◌, ◌<◌, ◌≤◌, ◌==◌, Bool, true, false, cond, ◌&&◌, List, [], ◌∷◌, ◌++◌, length, get_or, map, reverse, take, append_assoc, refl, sym, ap, ◌∙◌, subst, length-append, Option, Some, None, nat_lt, arith}
use Rattle.std.specs.Prelude.{count_by, filter, is_some, slice_get}
use Rattle.std.specs.List.{list_all}
use Rattle.std.proofs.lemmas.Bool.{and_from, and_parts, eqb-true, false_from_ne_true}
use Rattle.std.proofs.lemmas.Bool.Decides.{nat_tests}
use Rattle.std.proofs.lemmas.List.{append-nil, length-take-le, map-append, take_more}
use Rattle.std.proofs.lemmas.List.Elements.{filter-append}
use Rattle.std.proofs.lemmas.List.Sums.{sum_by-append, sum_by-cons}
use Rattle.update_model.specs.declared.row_name.RowName.{RowName}
use Rattle.update_model.specs.declared.value.Value.{Value}
use Rattle.update_model.specs.declared.value.Value.TheVariants as value
use Rattle.schema.specs.declared.action.Action.{Action}
use Rattle.schema.specs.declared.column.Column.{Column}
use Rattle.schema.specs.declared.column.ColumnKind.{ColumnKind}
use Rattle.schema.specs.Columns.{target_of}
use Rattle.table_model.specs.Visible.{RowRef, Rules, cascade_refs, is_cascade, ref_in, ref_to, refs_in}
use Rattle.tuple_state.specs.declared.dropped.Dropped.{Dropped}
use Rattle.tuple_state.specs.declared.inserted.Inserted.{Inserted}
use Rattle.tuple_state.specs.declared.links.Link.{Link}
use Rattle.tuple_state.specs.Causes.{AreRising, Raised, absent_times, is_absent, parents_from, pending_times}
use Rattle.tuple_state.specs.Kept.{are_layered, deletes_at, pairs_of, place_of}
use Rattle.tuple_state.specs.Links.{are_inside, is_of}
use Rattle.tuple_state.specs.Parents.{columns_at, name_at, name_by_cascade, name_in, names_in}
use Rattle.tuple_state.specs.State.{dropped_at, row_of, rules_over}
use Rattle.tuple_state.proofs.Deleting.{pair_parts}
use Rattle.tuple_state.proofs.Marks.{columns_there}
use Rattle.tuple_state.proofs.Meaning.{all_before, is_before}
use Rattle.tuple_state.proofs.Raising.{absent_by_counts, unit}

-- ---- the names that values name, column by column

one_name_in : (place : ℕ) (kind : ColumnKind) (v : Value) → map (λ (r : RowRef). dropped_at place r.name) (filter (λ (r : RowRef). is_cascade r.action) (ref_in kind v)) ≡ name_in place kind v
one_name_in place kind (value.Row name) =
    let inner : (t : ℕ × Action) (b : Bool) → map (λ (r : RowRef). dropped_at place r.name) (cond b (record { target = t.0; action = t.1; name = name } ∷ []) []) ≡ name_at place (cond b (Some name) None) =
    λ t. elim [ true ↦ refl | false ↦ refl ] in
    let step : (o : Option (ℕ × Action)) → map (λ (r : RowRef). dropped_at place r.name) (filter (λ (r : RowRef). is_cascade r.action) (ref_to name o)) ≡ name_at place (name_by_cascade name o) =
    elim [ None ↦ refl | Some t ↦ inner t (is_cascade t.1) ] in
    step (target_of kind)
one_name_in place kind value.Null = refl
one_name_in place kind (value.Int n) = refl
one_name_in place kind (value.Text text) = refl
one_name_in place kind (value.Flag flag) = refl
one_name_in place kind (value.Own number) = refl

all_names_in : (place : ℕ) (columns : List Column) (values : List Value) → map (λ (r : RowRef). dropped_at place r.name) (filter (λ (r : RowRef). is_cascade r.action) (refs_in columns values)) ≡ names_in place columns values
all_names_in place [] values = refl
all_names_in place (column ∷ columns) [] = refl
all_names_in place (column ∷ columns) (v ∷ values) =
    ap (map (λ (r : RowRef). dropped_at place r.name)) (filter-append (λ (r : RowRef). is_cascade r.action) (ref_in column.kind v) (refs_in columns values))
    ∙ map-append (λ (r : RowRef). dropped_at place r.name) (filter (λ (r : RowRef). is_cascade r.action) (ref_in column.kind v)) (filter (λ (r : RowRef). is_cascade r.action) (refs_in columns values))
    ∙ (λ i. one_name_in place column.kind v i ++ all_names_in place columns values i)

pub names_are : (shapes : List Shape) (place : ℕ) (it : Inserted) → map (λ r. dropped_at place r.name) (cascade_refs (rules_over shapes) (row_of it)) ≡ names_in place (columns_at shapes it.entry.table) it.entry.values
names_are shapes place it =
    ap (λ (l : List Column). map (λ (r : RowRef). dropped_at place r.name) (filter (λ (r : RowRef). is_cascade r.action) (refs_in l it.entry.values))) (columns_there shapes it.entry.table)
    ∙ all_names_in place (columns_at shapes it.entry.table) it.entry.values

pub parents-append : (rules : Rules) (place : ℕ) (xs ys : List Inserted) → parents_from rules place (xs ++ ys) ≡ parents_from rules place xs ++ parents_from rules (place + length xs) ys
unfolding parents_from
parents-append rules place [] ys = ap (λ n. parents_from rules n ys) (let e : place ≡ place + 0 = omega arith in e)
parents-append rules place (x ∷ xs) ys =
    let e : place + 1 + length xs ≡ place + length (x ∷ xs) = omega arith in
    ap (λ l. map (λ r. dropped_at place r.name) (cascade_refs rules (row_of x)) ++ l) (parents-append rules (place + 1) xs ys ∙ ap (λ n. parents_from rules (place + 1) xs ++ parents_from rules n ys) e)
    ∙ sym (append_assoc (map (λ r. dropped_at place r.name) (cascade_refs rules (row_of x))) (parents_from rules (place + 1) xs) (parents_from rules (place + length (x ∷ xs)) ys))

-- the names of one more row
pub parents_step : (shapes : List Shape) (first : ℕ) (rows : List Inserted) (n : ℕ) (it : Inserted) (names : List Dropped) (list : List Column) → n < length rows → it ≡ get_or rows n it
    → names ≡ parents_from (rules_over shapes) first (take n rows) → columns_at shapes it.entry.table ≡ list
    → names ++ names_in (first + n) list it.entry.values ≡ parents_from (rules_over shapes) first (take (n + 1) rows)
unfolding parents_from
parents_step shapes first rows n it names list below is so at =
    let rules = rules_over shapes in
    let len : length (take n rows) ≡ n = length-take-le n rows (omega (arith, below)) in
    let last : take (n + 1) rows ≡ take n rows ++ it ∷ [] = take_more rows n it below ∙ ap (λ (x : Inserted). take n rows ++ x ∷ []) (sym is) in
    (λ i. so i ++ (ap (λ (l : List Column). names_in (first + n) l it.entry.values) (sym at) ∙ sym (names_are shapes (first + n) it) ∙ sym (append-nil (map (λ r. dropped_at (first + n) r.name) (cascade_refs rules (row_of it))))) i)
    ∙ ap (λ m. parents_from rules first (take n rows) ++ parents_from rules (first + m) (it ∷ [])) (sym len)
    ∙ sym (ap (parents_from rules first) last ∙ parents-append rules first (take n rows) (it ∷ []))

-- ---- names that rise

-- Each name's number is from one on and below another, none is below the one before it, and its row stands before its number.
pub record IsRisingName (place : RowName → Option ℕ) (low high : ℕ) (d : Dropped) : Type 0 where
  pub least : low ≤ d.position
  pub below : d.position < high
  pub before : is_before d.position (place d.name) ≡ true

abbrev pub NamesRise : (RowName → Option ℕ) → ℕ → ℕ → List Dropped → Type 0
NamesRise place low high [] = Unit {0}
NamesRise place low high (d ∷ names) = IsRisingName place low high d × NamesRise place d.position high names

some_before : (k : ℕ) (o : Option ℕ) → is_before k o ≡ true → (j : ℕ) → Some j ≡ o → j < k
some_before k None h j e = absurd (cc)
some_before k (Some m) h j e = let same : j ≡ m = cc in grind (arith, nat_tests)

pub rising_links : (place : RowName → Option ℕ) (low high : ℕ) (links : List Link) (names : List Dropped) → pairs_of links ≡ deletes_at place names → NamesRise place low high names → AreRising low high links
unfolding AreRising
rising_links place low high [] [] h rise = tt
rising_links place low high [] (d ∷ names) h rise = absurd (cc)
rising_links place low high (link ∷ links) [] h rise = absurd (cc)
rising_links place low high (link ∷ links) (d ∷ names) h rise =
    let pair = pair_parts place link d links names h in
    let one = rise.0 in
    let behind : link.place < d.position = some_before d.position (place d.name) one.before link.place pair.at in (
      omega (arith, one.least, pair.number),
      omega (arith, one.below, pair.number),
      omega (arith, behind, pair.number),
      subst (λ n. AreRising n high links) (sym pair.number) (rising_links place d.position high links names pair.rest rise.1),
    )

some_is : (k : ℕ) (o : Option ℕ) → is_before k o ≡ true → is_some o ≡ true
some_is k None h = absurd (cc)
some_is k (Some j) h = refl

pub names_found : (place : RowName → Option ℕ) (low high : ℕ) (names : List Dropped) → NamesRise place low high names → list_all (λ (d : Dropped). is_some (place d.name)) names ≡ true
names_found place low high [] rise = refl
names_found place low high (d ∷ names) rise = and_from _ _ (some_is d.position (place d.name) rise.0.before) (names_found place d.position high names rise.1)

row_rises : (place : RowName → Option ℕ) (low high p : ℕ) (rs : List RowRef) (rest : List Dropped) → low ≤ p → p < high → list_all (λ (r : RowRef). is_before p (place r.name)) rs ≡ true
    → ((m : ℕ) → m ≤ p → NamesRise place m high rest) → NamesRise place low high (map (λ (r : RowRef). dropped_at p r.name) rs ++ rest)
row_rises place low high p [] rest least below before more = more low least
row_rises place low high p (r ∷ rs) rest least below before more =
    let parts = and_parts (is_before p (place r.name)) _ before in
    (record { least = least; below = below; before = parts.0 }, row_rises place p high p rs rest (omega arith) below parts.1 more)

module _ (shapes : List Shape) (rows : List Inserted) (layered : are_layered (rules_over shapes) (reverse (map row_of rows)) ≡ true) where
  pub rows_rise : (low high p : ℕ) (after : List Inserted) → ((m : ℕ) (it : Inserted) → slice_get after m ≡ Some it → slice_get rows (p + m) ≡ Some it) → p + length after ≤ high → low ≤ p
      → NamesRise (place_of rows) low high (parents_from (rules_over shapes) p after)
  unfolding parents_from
  rows_rise low high p [] at few least = tt
  rows_rise low high p (it ∷ after) at few least =
      let there : slice_get rows p ≡ Some it = ap (slice_get rows) (let e : p ≡ p + 0 = omega arith in e) ∙ at 0 it refl in
      row_rises (place_of rows) low high p (cascade_refs (rules_over shapes) (row_of it)) (parents_from (rules_over shapes) (p + 1) after) least (omega (arith, few)) (all_before shapes rows layered p it there)
      (λ m under. rows_rise m high (p + 1) after (λ k x h. ap (slice_get rows) (let e : p + 1 + k ≡ p + suc k = omega arith in e) ∙ at (suc k) x h) (omega (arith, few)) (omega (arith, under)))

  -- the names of all rows
  pub all_rise : NamesRise (place_of rows) 0 (length rows) (parents_from (rules_over shapes) 0 rows)
  all_rise = rows_rise 0 (length rows) 0 rows (λ m it h. ap (slice_get rows) (let e : 0 + m ≡ m = omega arith in e) ∙ h) (omega arith) (omega arith)

slice_get_behind : {X : Type 0} (xs ys : List X) (m : ℕ) (y : X) → slice_get ys m ≡ Some y → slice_get (xs ++ ys) (length xs + m) ≡ Some y
slice_get_behind [] ys m y h = ap (slice_get ys) (let e : 0 + m ≡ m = omega arith in e) ∙ h
slice_get_behind (x ∷ xs) ys m y h = ap (slice_get (x ∷ xs ++ ys)) (let e : length (x ∷ xs) + m ≡ suc (length xs + m) = omega arith in e) ∙ slice_get_behind xs ys m y h

-- those of the rows that come last
pub news_rise : (shapes : List Shape) (rows news : List Inserted) → are_layered (rules_over shapes) (reverse (map row_of (rows ++ news))) ≡ true
    → NamesRise (place_of (rows ++ news)) (length rows) (length (rows ++ news)) (parents_from (rules_over shapes) (length rows) news)
news_rise shapes rows news layered =
    rows_rise shapes (rows ++ news) layered (length rows) (length (rows ++ news)) (length rows) news (λ m it h. slice_get_behind rows news m it h) (let l = length-append rows news in omega (arith, l)) (omega arith)

-- ---- what rises

pub rising_inside : (low high : ℕ) (links : List Link) → AreRising low high links → are_inside high links ≡ true
unfolding AreRising
rising_inside low high [] rise = refl
rising_inside low high (link ∷ links) rise =
    let a = rise.1 in
    let b = rise.2 in
    and_from _ _ (let lt : nat_lt link.place high ≡ true = grind (arith, nat_tests) in lt) (rising_inside link.number high links rise.3)

pub rising_lower : (low lower high : ℕ) (links : List Link) → lower ≤ low → AreRising low high links → AreRising lower high links
unfolding AreRising
rising_lower low lower high [] le rise = tt
rising_lower low lower high (link ∷ links) le rise = (let a = rise.0 in omega (arith, a, le), rise.1, rise.2, rise.3)

count_cons : {X : Type 0} (f : X → Bool) (x : X) (xs : List X) → count_by f (x ∷ xs) ≡ unit (f x) + count_by f xs
count_cons f x xs = sum_by-cons (λ y. cond (f y) 1 0) x xs

-- no number is below the first
pub none_lower : (causes : List ℕ) (low high k : ℕ) (links : List Link) → AreRising low high links → k < low → absent_times links causes k ≡ 0
unfolding AreRising
none_lower causes low high k [] rise below = refl
none_lower causes low high k (link ∷ links) rise below =
    let a = rise.0 in
    let other : (link.number == k) ≡ false = false_from_ne_true _ (λ e. let same = eqb-true link.number k e in absurd (omega (arith, same, a, below))) in
    let and_false : (b : Bool) → (b && false) ≡ false = elim [ true ↦ refl | false ↦ refl ] in
    count_cons (λ (l : Link). is_absent causes l.place && (l.number == k)) link links
    ∙ (λ i. unit ((ap (λ b. is_absent causes link.place && b) other ∙ and_false (is_absent causes link.place)) i) + none_lower causes link.number high k links rise.3 (omega (arith, a, below)) i)

pub count-append : {X : Type 0} (f : X → Bool) (xs ys : List X) → count_by f (xs ++ ys) ≡ count_by f xs + count_by f ys
count-append f xs ys = sum_by-append (λ x. cond (f x) 1 0) xs ys

-- ---- new links

module _ (whole old refs deleted names : List Link) (known high : ℕ) (before counted : List ℕ) (is : whole ≡ old ++ refs) (rise : AreRising known high refs) (inside : are_inside known old ≡ true)
    (kept : (k : ℕ) → get_or before k 0 ≡ count_by (is_of k) deleted + absent_times old before k) (more : (k : ℕ) → get_or counted k 0 ≡ get_or before k 0 + absent_times refs counted k) where
  -- the counts of the rows before the new ones are the same
  same_known : (p : ℕ) → p < known → get_or counted p 0 ≡ get_or before p 0
  same_known p below = let m = more p in let none = none_lower counted known high p refs rise below in omega (arith, m, none)

  -- counts with the new links
  pub linked_in : (k : ℕ) → get_or counted k 0 ≡ count_by (is_of k) deleted + absent_times whole counted k
  linked_in k =
      let a = kept k in
      let b = more k in
      let c = absent_by_counts known k counted before old inside same_known in
      let d = ap (λ (l : List Link). absent_times l counted k) is ∙ count-append (λ (link : Link). is_absent counted link.place && (link.number == k)) old refs in
      omega (arith, a, b, c, d)

  pub nothing_deleted : names ≡ [] → (k : ℕ) → get_or counted k 0 ≡ count_by (is_of k) (deleted ++ names) + absent_times whole counted k
  nothing_deleted none k =
      let a = linked_in k in
      let b = count-append (is_of k) deleted names in
      let c : count_by (is_of k) names ≡ 0 = ap (count_by (is_of k)) none in
      omega (arith, a, b, c)

  pub spread_out : (pending left raised ended : List ℕ) → pending ≡ [] → Raised whole (λ k. count_by (is_of k) names) counted pending raised left
      → ((k : ℕ) → get_or ended k 0 + absent_times whole raised k ≡ get_or raised k 0 + pending_times whole left k + absent_times whole ended k)
      → (k : ℕ) → get_or ended k 0 ≡ count_by (is_of k) (deleted ++ names) + absent_times whole ended k
  spread_out pending left raised ended idle grew even k =
      let a = linked_in k in
      let b = grew.count k in
      let c = grew.owes k in
      let d : pending_times whole pending k ≡ 0 = ap (λ (l : List ℕ). pending_times whole l k) idle in
      let e = even k in
      let f = count-append (is_of k) deleted names in
      omega (arith, a, b, c, d, e, f)
