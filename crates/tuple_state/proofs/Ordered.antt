-- The rows that a map of names leads to, in the map's order.
use Rattle.std.proofs.Common.{◌≡◌, ℕ, zero, suc, ◌+◌, ◌≤◌, Bool, true, false, cond, List, [], ◌∷◌, ◌++◌, length, map, take, refl, sym, ap, subst, ◌∙◌, arith, Option, None, Some, append_assoc, append-nil}
use Rattle.std.specs.Prelude.{All, slice_get, filter, option_to_list}
use Rattle.std.specs.declared.cmp.Ordering.TheVariants.{Less}
use Rattle.std.specs.Cmp.{IsEquivalence}
use Rattle.std.specs.Ordering.{eq_by_cmp}
use Rattle.std.specs.List.{AllByRecursion, IsDistinct, list_any}
use Rattle.std.specs.List.Sorted.{IsPermutation, IsStrictlySortedBy}
use Rattle.std.specs.Map.{keys_of, lookup, remove_entry}
use Rattle.std.proofs.lemmas.Cmp.{eq_by_cmp_equiv}
use Rattle.std.proofs.lemmas.List.{map-append, take_more, length-take-le, take_all}
use Rattle.std.proofs.lemmas.List.Elements.{All-head, All-tail, filter-append}
use Rattle.std.proofs.lemmas.List.Sorted.{IsPermutation-append_comm, IsPermutation-append_left, IsPermutation-append_right, IsPermutation-refl, IsPermutation-trans}
use Rattle.std.proofs.lemmas.Map.{lookup-remove_entry}
use Rattle.std.proofs.lemmas.Map.Keys.{IsDistinct-cons, IsDistinct-from_sorted, IsDistinct-head, IsDistinct-tail}
use Rattle.update_model.specs.declared.row_name.RowName.{RowName}
use Rattle.table_model.specs.declared.shown_row.ShownRow.{ShownRow}
use Rattle.table_model.specs.Tables.{name_cmp}
use Rattle.table_model.specs.Visible.{same_row}
use Rattle.table_model.proofs.Rising.{name_cmp_total}
use Rattle.tuple_state.specs.declared.inserted.Inserted.{Inserted}
use Rattle.tuple_state.specs.Arrived.{arrived, is_listed, line_of, listed_rows}
use Rattle.tuple_state.specs.Kept.{place_of}
use Rattle.tuple_state.specs.Parents.{AreFresh}
use Rattle.tuple_state.specs.State.{State}
use Rattle.tuple_state.proofs.Dropping.{row_there}
use Rattle.tuple_state.proofs.Finding.{same_some}
use Rattle.tuple_state.proofs.Lookups.{get_or_from, row_found}
use Rattle.tuple_state.proofs.Marks.{eq_is_same, fresh_at, place_pop, place_push}

-- whether two names are one, as the map tells them
abbrev same : RowName → RowName → Bool
same = eq_by_cmp name_cmp

laws : IsEquivalence same
laws = eq_by_cmp_equiv name_cmp_total

-- what a table lists of the row at a place
abbrev pub line_at : State → ℕ → ℕ → List ShownRow
line_at state table place = listed_rows state table (option_to_list (slice_get state.inserted place))

-- and of the rows that entries lead to, in their order
abbrev pub lines_of : State → ℕ → List (RowName × ℕ) → List ShownRow
lines_of state table [] = []
lines_of state table (e ∷ es) = line_at state table e.1 ++ lines_of state table es

-- In rising order of names, these are the lines of a table.
pub record AreInOrder (state : State) (table : ℕ) (lines : List ShownRow) : Type 0 where
  pub exact : IsPermutation lines (arrived state table)
  pub rising : IsStrictlySortedBy name_cmp (map (λ line. line.name) lines)

-- each entry leads to the row with its name
abbrev pub ArePlaced : List Inserted → List (RowName × ℕ) → Type 0
ArePlaced rows es = AllByRecursion (λ (e : RowName × ℕ). place_of rows e.0 ≡ Some e.1) es

-- ---- one entry is taken out

swapped : {X : Type 0} (xs ys zs : List X) → IsPermutation (xs ++ (ys ++ zs)) (ys ++ (xs ++ zs))
swapped xs ys zs =
    subst (λ l. IsPermutation l (ys ++ (xs ++ zs))) (append_assoc xs ys zs)
    (subst (IsPermutation ((xs ++ ys) ++ zs)) (append_assoc ys xs zs) (IsPermutation-append_left zs (xs ++ ys) (ys ++ xs) (IsPermutation-append_comm xs ys)))

module _ (state : State) (table : ℕ) where
  taken_out : (name : RowName) (place : ℕ) (es : List (RowName × ℕ)) → lookup (same name) es ≡ Some place
      → IsPermutation (lines_of state table es) (line_at state table place ++ lines_of state table (remove_entry (same name) es))
  taken_out name place [] h = absurd (cc)
  taken_out name place (e ∷ es) h = by_test (same name e.0) (taken_out name place es) h
    where
      here : List ShownRow
      here = line_at state table e.1

      rest : List ShownRow
      rest = lines_of state table (remove_entry (same name) es)

      by_test : (b : Bool) → (lookup (same name) es ≡ Some place → IsPermutation (lines_of state table es) (line_at state table place ++ rest)) → cond b (Some e.1) (lookup (same name) es) ≡ Some place
          → IsPermutation (here ++ lines_of state table es) (line_at state table place ++ lines_of state table (cond b es (e ∷ remove_entry (same name) es)))
      by_test true later g =
          subst (λ (p : ℕ). IsPermutation (here ++ lines_of state table es) (line_at state table p ++ lines_of state table es)) (same_some e.1 place g) (IsPermutation-refl (here ++ lines_of state table es))
      by_test false later g =
          IsPermutation-trans (here ++ lines_of state table es) (here ++ (line_at state table place ++ rest)) (line_at state table place ++ (here ++ rest))
          (IsPermutation-append_right here (lines_of state table es) (line_at state table place ++ rest) (later g)) (swapped here (line_at state table place) rest)

all_without : (P : RowName → Type 0) (test : RowName → Bool) (es : List (RowName × ℕ)) → AllByRecursion P (keys_of es) → AllByRecursion P (keys_of (remove_entry test es))
all_without P test [] a = tt
all_without P test (e ∷ es) a = by_test (test e.0) (all_without P test es a.1)
  where
    by_test : (b : Bool) → AllByRecursion P (keys_of (remove_entry test es)) → AllByRecursion P (keys_of (cond b es (e ∷ remove_entry test es)))
    by_test true later = a.1
    by_test false later = (a.0, later)

distinct_without : (test : RowName → Bool) (es : List (RowName × ℕ)) → IsDistinct same (keys_of es) → IsDistinct same (keys_of (remove_entry test es))
distinct_without test [] d = d
distinct_without test (e ∷ es) d = by_test (test e.0) (distinct_without test es (IsDistinct-tail same e.0 (keys_of es) d))
  where
    by_test : (b : Bool) → IsDistinct same (keys_of (remove_entry test es)) → IsDistinct same (keys_of (cond b es (e ∷ remove_entry test es)))
    by_test true later = IsDistinct-tail same e.0 (keys_of es) d
    by_test false later =
        IsDistinct-cons same e.0 (keys_of (remove_entry test es)) (all_without (λ y. same e.0 y ≡ false) test es (IsDistinct-head same e.0 (keys_of es) d)) later

-- ---- entries that lead to the first rows, each to its own

listed_append : (state : State) (table : ℕ) (xs ys : List Inserted) → listed_rows state table (xs ++ ys) ≡ listed_rows state table xs ++ listed_rows state table ys
listed_append state table xs ys =
    ap (map (line_of state)) (filter-append (is_listed state table) xs ys) ∙ map-append (line_of state) (filter (is_listed state table) xs) (filter (is_listed state table) ys)

no_entry : (es : List (RowName × ℕ)) → ((q : RowName) → lookup (same q) es ≡ None) → es ≡ []
no_entry [] none = refl
no_entry (e ∷ es) none =
    let found : lookup (same e.0) (e ∷ es) ≡ Some e.1 = ap (λ b. cond b (Some e.1) (lookup (same e.0) es)) (laws.refl e.0) in
    let never : Some e.1 ≡ None = sym found ∙ none e.0 in
    absurd (cc)

module _ (state : State) (table : ℕ) (fresh : AreFresh [] state.inserted) where
  pub lines_are : (n : ℕ) (es : List (RowName × ℕ)) → n ≤ length state.inserted → IsDistinct same (keys_of es) → ((q : RowName) → lookup (same q) es ≡ place_of (take n state.inserted) q)
      → IsPermutation (lines_of state table es) (listed_rows state table (take n state.inserted))
  lines_are zero es low distinct placed =
      subst (λ (l : List (RowName × ℕ)). IsPermutation (lines_of state table l) []) (sym (no_entry es placed)) (IsPermutation-refl [])
  lines_are (suc n) es low distinct placed =
      let row = row_there state.inserted n (omega (arith, low)) in
      let it = row.0 in
      let front = take n state.inserted in
      let one_on : suc n ≡ n + 1 = omega arith in
      let more : take (suc n) state.inserted ≡ front ++ it ∷ [] =
      ap (λ k. take k state.inserted) one_on ∙ take_more state.inserted n it (omega (arith, low)) ∙ ap (λ (x : Inserted). front ++ x ∷ []) (get_or_from state.inserted n it it row.1) in
      let long : length front ≡ n = length-take-le n state.inserted (omega (arith, low)) in
      let new : list_any (λ (r : Inserted). same_row r.name it.name) front ≡ false =
      subst (λ (x : Inserted). list_any (λ (r : Inserted). same_row r.name x.name) front ≡ false) (get_or_from state.inserted n it it row.1) (fresh_at [] state.inserted n it fresh (omega (arith, low))) in
      let now : (q : RowName) → lookup (same q) es ≡ place_of (front ++ it ∷ []) q = λ q. placed q ∙ ap (λ (l : List Inserted). place_of l q) more in
      let one : (q : RowName) → same it.name q ≡ same_row it.name q = λ q. eq_is_same it.name q in
      let here : lookup (same it.name) es ≡ Some n =
      now it.name ∙ sym (place_push front it it.name new) ∙ ap (λ b. cond b (Some (length front)) (place_of front it.name)) (sym (one it.name) ∙ laws.refl it.name) ∙ ap Some long in
      let left = remove_entry (same it.name) es in
      let others : (q : RowName) → lookup (same q) left ≡ place_of front q =
      λ q. lookup-remove_entry laws (same it.name) (laws.congr it.name) q es distinct ∙ (λ i. cond (one q i) None (now q i)) ∙ place_pop front it q new in
      let lower : n ≤ length state.inserted = omega (arith, low) in
      let rest = lines_are n left lower (distinct_without (same it.name) es distinct) others in
      let last : line_at state table n ≡ listed_rows state table (it ∷ []) = ap (λ o. listed_rows state table (option_to_list o)) row.1 in
      let whole : listed_rows state table (take (suc n) state.inserted) ≡ listed_rows state table front ++ line_at state table n =
      ap (listed_rows state table) more ∙ listed_append state table front (it ∷ []) ∙ ap (λ l. listed_rows state table front ++ l) (sym last) in
      subst (IsPermutation (lines_of state table es)) (sym whole)
      (IsPermutation-trans (lines_of state table es) (line_at state table n ++ lines_of state table left) (listed_rows state table front ++ line_at state table n)
      (taken_out state table it.name n es here)
      (IsPermutation-trans (line_at state table n ++ lines_of state table left) (line_at state table n ++ listed_rows state table front) (listed_rows state table front ++ line_at state table n)
      (IsPermutation-append_right (line_at state table n) (lines_of state table left) (listed_rows state table front) rest)
      (IsPermutation-append_comm (line_at state table n) (listed_rows state table front))))

  -- those of all rows
  pub all_lines : (es : List (RowName × ℕ)) → IsStrictlySortedBy name_cmp (keys_of es) → ((q : RowName) → lookup (same q) es ≡ place_of state.inserted q)
      → IsPermutation (lines_of state table es) (arrived state table)
  all_lines es rising placed =
      let whole = take_all (length state.inserted) state.inserted (omega arith) in
      subst (λ (l : List Inserted). IsPermutation (lines_of state table es) (listed_rows state table l)) whole
      (lines_are (length state.inserted) es (omega arith) (IsDistinct-from_sorted name_cmp (keys_of es) rising) (λ q. placed q ∙ ap (λ (l : List Inserted). place_of l q) (sym whole)))

-- ---- rising names

abbrev name_of : ShownRow → RowName
name_of line = line.name

module _ (state : State) (table : ℕ) where
  -- what the first entry leads to has its name
  one_more : (P : List RowName → Type 0) (e : RowName × ℕ) (names : List RowName) → place_of state.inserted e.0 ≡ Some e.1 → P names → P (e.0 ∷ names)
      → P (map name_of (line_at state table e.1) ++ names)
  one_more P e names placed none one =
      let row = row_found state.inserted e.0 e.1 placed in
      let step : (b : Bool) → P (map name_of (map (line_of state) (cond b (row.it ∷ []) [])) ++ names) =
      elim [ true ↦ subst (λ (n : RowName). P (n ∷ names)) (sym row.name_is) one | false ↦ none ] in
      subst (λ o. P (map name_of (listed_rows state table (option_to_list o)) ++ names)) (sym row.at) (step (is_listed state table row.it))

  all_lead : (Q : RowName → Type 0) (es : List (RowName × ℕ)) → ArePlaced state.inserted es → AllByRecursion Q (keys_of es) → AllByRecursion Q (map name_of (lines_of state table es))
  all_lead Q [] placed all = tt
  all_lead Q (e ∷ es) placed all =
      let rest = all_lead Q es placed.1 all.1 in
      subst (AllByRecursion Q) (sym (map-append name_of (line_at state table e.1) (lines_of state table es)))
      (one_more (AllByRecursion Q) e (map name_of (lines_of state table es)) placed.0 rest (all.0, rest))

  pub lines_rise : (es : List (RowName × ℕ)) → ArePlaced state.inserted es → IsStrictlySortedBy name_cmp (keys_of es) → IsStrictlySortedBy name_cmp (map name_of (lines_of state table es))
  unfolding IsStrictlySortedBy
  lines_rise [] placed rising = tt
  lines_rise (e ∷ es) placed rising =
      let rest = lines_rise es placed.1 rising.1 in
      subst (IsStrictlySortedBy name_cmp) (sym (map-append name_of (line_at state table e.1) (lines_of state table es)))
      (one_more (IsStrictlySortedBy name_cmp) e (map name_of (lines_of state table es)) placed.0 rest (all_lead (λ y. name_cmp e.0 y ≡ Less) es placed.1 rising.0, rest))

-- ---- what is listed and what is left

-- the entries of a map by which each name is found
pub placed_each : (rows : List Inserted) (found : RowName → Option ℕ) → ((q : RowName) → found q ≡ place_of rows q) → (es : List (RowName × ℕ)) → All (λ (e : RowName × ℕ). found e.0 ≡ Some e.1) es
    → ArePlaced rows es
placed_each rows found is [] all = tt
placed_each rows found is (e ∷ es) all =
    (sym (is e.0) ∙ All-head (λ (e : RowName × ℕ). found e.0 ≡ Some e.1) e es all, placed_each rows found is es (All-tail (λ (e : RowName × ℕ). found e.0 ≡ Some e.1) e es all))

-- before the first entry
pub in_order : (state : State) (table : ℕ) → AreFresh [] state.inserted → (es : List (RowName × ℕ)) → IsStrictlySortedBy name_cmp (keys_of es)
    → ((q : RowName) → lookup (same q) es ≡ place_of state.inserted q) → ArePlaced state.inserted es → AreInOrder state table (lines_of state table es)
in_order state table fresh es rising placed each = record { exact = all_lines state table fresh es rising placed; rising = lines_rise state table es each rising }

-- one entry further, whose row is listed or not
pub in_order_next : (state : State) (table : ℕ) (old new more : List ShownRow) (left rest : List (RowName × ℕ)) (e : RowName × ℕ) (it : Inserted) (b : Bool) → left ≡ e ∷ rest
    → slice_get state.inserted e.1 ≡ Some it → b ≡ is_listed state table it → more ≡ map (line_of state) (cond b (it ∷ []) []) → new ≡ old ++ more
    → AreInOrder state table (old ++ lines_of state table left) → AreInOrder state table (new ++ lines_of state table rest)
in_order_next state table old new more left rest e it b next at answer last pushed before =
    let here : more ≡ line_at state table e.1 =
    last ∙ ap (λ (c : Bool). map (line_of state) (cond c (it ∷ []) [])) answer ∙ sym (ap (λ o. listed_rows state table (option_to_list o)) at) in
    let same_lines : new ++ lines_of state table rest ≡ old ++ lines_of state table left =
    ap (λ (l : List ShownRow). l ++ lines_of state table rest) pushed ∙ append_assoc old more (lines_of state table rest)
    ∙ ap (λ (l : List ShownRow). old ++ (l ++ lines_of state table rest)) here ∙ ap (λ (l : List (RowName × ℕ)). old ++ lines_of state table l) (sym next) in
    subst (AreInOrder state table) (sym same_lines) before

-- behind the last one
pub in_order_last : (state : State) (table : ℕ) (lines : List ShownRow) (left : List (RowName × ℕ)) → left ≡ [] → AreInOrder state table (lines ++ lines_of state table left) → AreInOrder state table lines
in_order_last state table lines left none before =
    subst (AreInOrder state table) (ap (λ (l : List (RowName × ℕ)). lines ++ lines_of state table l) none ∙ append-nil lines) before
