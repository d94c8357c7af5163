-- Groups of rows of one value.
use Rattle.std.proofs.Common.{◌≡◌, ◌≢◌, ℕ, zero, suc, ◌+◌, ◌<◌, ◌≤◌, ◌==◌, Bool, true, false, ◌&&◌, List, [], ◌∷◌, ◌++◌, length, get_or, take, refl, sym, ap, ◌∙◌, subst, Some, None, is_none, length-append, Option, arith, inl, inr, ◌⊎◌, nat_lt}
use Rattle.std.specs.Prelude.{is_some, slice_get}
use Rattle.std.specs.List.{list_any}
use Rattle.std.proofs.lemmas.Bool.{and_parts, both_ways, eq-eqb, eqb-true, false_from_ne_true, or_parts}
use Rattle.std.proofs.lemmas.Bool.Decides.{nat_tests}
use Rattle.update_model.proofs.Closed.{is_some-position}
use Rattle.table_model.specs.Visible.{kept_of}
use Rattle.table_model.proofs.EqualValues.{equal_back, equal_both, equal_on}
use Rattle.table_model.proofs.Standing.{bool_same}
use Rattle.row_check.specs.Meaning.{value_at}
use Rattle.tuple_state.specs.declared.inserted.Inserted.{Inserted}
use Rattle.tuple_state.specs.declared.shape.Shape.{Shape}
use Rattle.tuple_state.specs.Least.{AreGrouped, are_equal}
use Rattle.tuple_state.specs.State.{keep_any, rules_over}
use Rattle.tuple_state.specs.Values.{alike_in, first_alike, has_at}
use Rattle.tuple_state.proofs.Layers.{plain_shapes}
use Rattle.tuple_state.proofs.Lookups.{found_at}

-- ---- parts of lists

pub get_or_left : {X : Type 0} (xs ys : List X) (k : ℕ) (d : X) → k < length xs → get_or (xs ++ ys) k d ≡ get_or xs k d
get_or_left [] ys k d low = absurd (omega (arith, low))
get_or_left (x ∷ xs) ys zero d low = refl
get_or_left (x ∷ xs) ys (suc k) d low = get_or_left xs ys k d (omega (arith, low))

pub get_or_last : {X : Type 0} (xs : List X) (x d : X) (k : ℕ) → k ≡ length xs → get_or (xs ++ x ∷ []) k d ≡ x
get_or_last [] x d zero is = refl
get_or_last [] x d (suc k) is = absurd (omega (arith, is))
get_or_last (y ∷ xs) x d zero is = absurd (omega (arith, is))
get_or_last (y ∷ xs) x d (suc k) is = get_or_last xs x d k (omega (arith, is))

get_or_front : {X : Type 0} (n : ℕ) (xs : List X) (k : ℕ) (d : X) → k < length (take n xs) → get_or (take n xs) k d ≡ get_or xs k d
get_or_front zero xs k d low = absurd (omega (arith, low))
get_or_front (suc n) [] k d low = absurd (omega (arith, low))
get_or_front (suc n) (x ∷ xs) zero d low = refl
get_or_front (suc n) (x ∷ xs) (suc k) d low = get_or_front n xs k d (omega (arith, low))

front_shorter : {X : Type 0} (n : ℕ) (xs : List X) → length (take n xs) ≤ length xs
front_shorter zero xs = omega arith
front_shorter (suc n) [] = omega arith
front_shorter (suc n) (x ∷ xs) = let rest = front_shorter n xs in omega (arith, rest)

slice_get_front : {X : Type 0} (n : ℕ) (xs : List X) (k : ℕ) (x : X) → slice_get (take n xs) k ≡ Some x → slice_get xs k ≡ Some x
slice_get_front zero xs k x at = absurd (cc)
slice_get_front (suc n) [] k x at = absurd (cc)
slice_get_front (suc n) (y ∷ xs) zero x at = at
slice_get_front (suc n) (y ∷ xs) (suc k) x at = slice_get_front n xs k x at

slice_get_old : {X : Type 0} (xs ys : List X) (k : ℕ) (x : X) → k < length xs → slice_get (xs ++ ys) k ≡ Some x → slice_get xs k ≡ Some x
slice_get_old [] ys k x low at = absurd (omega (arith, low))
slice_get_old (y ∷ xs) ys zero x low at = at
slice_get_old (y ∷ xs) ys (suc k) x low at = slice_get_old xs ys k x (omega (arith, low)) at

-- ---- numbers in order

pub below_or : (k n : ℕ) → (k < n) ⊎ (n ≤ k)
below_or k n =
    let step : (b : Bool) → nat_lt k n ≡ b → (k < n) ⊎ (n ≤ k) = elim [ true ↦ λ e. inl (grind (arith, nat_tests)) | false ↦ λ e. inr (grind (arith, nat_tests)) ] in
    step (nat_lt k n) refl

pub last_or : (k n : ℕ) → k < n + 1 → (k < n) ⊎ (k ≡ n)
last_or k n h = elim (below_or k n) [ inl low ↦ inl low | inr high ↦ inr (omega (arith, h, high)) ]

pub apart_or : (j k : ℕ) → j ≢ k → (j < k) ⊎ (k < j)
apart_or j k ne = elim (below_or j k) [ inl low ↦ inl low | inr high ↦ inr (omega (arith, ne, high)) ]

pub same_or : (j k : ℕ) → (j ≡ k) ⊎ (j ≢ k)
same_or j k =
    let step : (b : Bool) → (j == k) ≡ b → (j ≡ k) ⊎ (j ≢ k) = elim [ true ↦ λ e. inl (eqb-true j k e) | false ↦ λ e. inr (λ s. both_ways _ e (eq-eqb j k s)) ] in
    step (j == k) refl

-- ---- which rows are in one group

equal_turned : (m n : ℕ) → (m == n) ≡ (n == m)
equal_turned m n = bool_same (m == n) (n == m) (λ h. eq-eqb n m (sym (eqb-true m n h))) (λ h. eq-eqb m n (sym (eqb-true n m h)))

pub some_kept : (shapes : List Shape) (number column : ℕ) → keep_any shapes ≡ false → kept_of (rules_over shapes) number ≡ Some column → ⊥
some_kept shapes number column plain is = let none : is_none (Some column) ≡ true = ap is_none (sym is) ∙ plain_shapes shapes plain number in cc

module _ (shapes : List Shape) (rows : List Inserted) (groups : List ℕ) (grouped : AreGrouped shapes rows groups) where
  -- two rows of one table are in one group where they have one value
  pub group_same : (j k column : ℕ) (a b : Inserted) → j ≢ k → j < length groups → k < length groups → slice_get rows j ≡ Some a → slice_get rows k ≡ Some b → a.entry.table ≡ b.entry.table
      → kept_of (rules_over shapes) b.entry.table ≡ Some column → (get_or groups j 0 == get_or groups k 0) ≡ are_equal column b a
  group_same j k column a b ne low high at there table is =
      elim (apart_or j k ne) [
        | inl lt ↦ grouped.alike j k column a b lt high at there table is ∙ equal_back (value_at a.entry.values column) (value_at b.entry.values column)
        | inr gt ↦ equal_turned (get_or groups j 0) (get_or groups k 0) ∙ grouped.alike k j column b a gt low there at (sym table) (ap (kept_of (rules_over shapes)) table ∙ is)
      ]

  -- one more row is in a group
  module _ (place : ℕ) (row : Inserted) (each : length groups ≡ place) (at : slice_get rows place ≡ Some row) where
    pub grouped_with : (g : ℕ) → g ≤ place → (g < place → get_or groups g 0 ≡ g)
        → ((j : ℕ) (a : Inserted) → j < place → slice_get rows j ≡ Some a → get_or groups j 0 ≡ g → a.entry.table ≡ row.entry.table)
        → ((j column : ℕ) (a : Inserted) → j < place → slice_get rows j ≡ Some a → a.entry.table ≡ row.entry.table → kept_of (rules_over shapes) row.entry.table ≡ Some column → (get_or groups j 0 == g) ≡ are_equal column a row)
        → AreGrouped shapes rows (groups ++ g ∷ [])
    grouped_with g low own apart alike =
        let len = length-append groups (g ∷ []) in
        let last_is : (k : ℕ) (b : Inserted) → k ≡ length groups → slice_get rows k ≡ Some b → b ≡ row =
        λ k b last there. let same : Some b ≡ Some row = sym there ∙ ap (slice_get rows) (last ∙ each) ∙ at in cc in
        let left : (k : ℕ) → k < length groups → get_or (groups ++ g ∷ []) k 0 ≡ get_or groups k 0 = λ k old. get_or_left groups (g ∷ []) k 0 old in
        let here : (k : ℕ) → k ≡ length groups → get_or (groups ++ g ∷ []) k 0 ≡ g = λ k last. get_or_last groups g 0 k last in
        let of_last : (j : ℕ) (a : Inserted) → j < length groups → slice_get rows j ≡ Some a → get_or (groups ++ g ∷ []) j 0 ≡ g → a.entry.table ≡ row.entry.table =
        λ j a old there same. apart j a (omega (arith, old, each)) there (sym (left j old) ∙ same) in record {
          inside = λ k below. elim (last_or k (length groups) (omega (arith, below, len))) [
            | inl old ↦ let e = left k old in let h = grouped.inside k old in omega (arith, e, h)
            | inr last ↦ let e = here k last in omega (arith, e, low, each, last)
          ];
          own = λ k below. elim (last_or k (length groups) (omega (arith, below, len))) [
            | inl old ↦
                let h = grouped.inside k old in
                ap (λ n. get_or (groups ++ g ∷ []) n 0) (left k old) ∙ left (get_or groups k 0) (omega (arith, h, old)) ∙ grouped.own k old ∙ sym (left k old)
            | inr last ↦
                let root : get_or (groups ++ g ∷ []) g 0 ≡ g = elim (last_or g (length groups) (omega (arith, low, each))) [ inl old ↦ left g old ∙ own (omega (arith, old, each)) | inr end ↦ here g end ] in
                ap (λ n. get_or (groups ++ g ∷ []) n 0) (here k last) ∙ root ∙ sym (here k last)
          ];
          apart = λ j k a b jn kn ja kb same. elim (last_or j (length groups) (omega (arith, jn, len))) [
            | inl jo ↦ elim (last_or k (length groups) (omega (arith, kn, len))) [
              | inl ko ↦ grouped.apart j k a b jo ko ja kb (sym (left j jo) ∙ same ∙ left k ko)
              | inr kl ↦ of_last j a jo ja (same ∙ here k kl) ∙ ap (λ (x : Inserted). x.entry.table) (sym (last_is k b kl kb))
            ]
            | inr jl ↦ elim (last_or k (length groups) (omega (arith, kn, len))) [
              | inl ko ↦ ap (λ (x : Inserted). x.entry.table) (last_is j a jl ja) ∙ sym (of_last k b ko kb (sym same ∙ here j jl))
              | inr kl ↦ ap (λ (x : Inserted). x.entry.table) (last_is j a jl ja ∙ sym (last_is k b kl kb))
            ]
          ];
          alike = λ j k column a b lt below ja kb table is. elim (last_or k (length groups) (omega (arith, below, len))) [
            | inl old ↦ (λ i. left j (omega (arith, lt, old)) i == left k old i) ∙ grouped.alike j k column a b lt old ja kb table is
            | inr last ↦
                let one : b ≡ row = last_is k b last kb in
                (λ i. left j (omega (arith, lt, last)) i == here k last i)
                ∙ alike j column a (omega (arith, lt, last, each)) ja (table ∙ ap (λ (x : Inserted). x.entry.table) one) (ap (λ (x : Inserted). kept_of (rules_over shapes) x.entry.table) (sym one) ∙ is)
                ∙ ap (are_equal column a) (sym one)
          ];
        }

    -- that of an earlier one with its value
    pub grouped_there : (other column : ℕ) (o : Inserted) → other < place → slice_get rows other ≡ Some o → o.entry.table ≡ row.entry.table → kept_of (rules_over shapes) row.entry.table ≡ Some column → are_equal column o row ≡ true
        → AreGrouped shapes rows (groups ++ get_or groups other 0 ∷ [])
    grouped_there other column o below here table is same =
        let inside = grouped.inside other (omega (arith, below, each)) in
        grouped_with (get_or groups other 0) (omega (arith, inside, below)) (λ root. grouped.own other (omega (arith, below, each)))
        (λ j a low there eq. grouped.apart j other a o (omega (arith, low, each)) (omega (arith, below, each)) there here eq ∙ table)
        (λ j c a low there ta ic.
        let one : Some column ≡ Some c = sym is ∙ ic in
        let col : column ≡ c = cc in
        let move : are_equal column a o ≡ are_equal column a row =
        bool_same (are_equal column a o) (are_equal column a row) (λ h. equal_on (value_at a.entry.values column) (value_at o.entry.values column) (value_at row.entry.values column) h same)
        (λ h. equal_both (value_at row.entry.values column) (value_at a.entry.values column) (value_at o.entry.values column)
        (equal_back (value_at row.entry.values column) (value_at a.entry.values column) ∙ h) (equal_back (value_at row.entry.values column) (value_at o.entry.values column) ∙ same)) in
        let there_is : (get_or groups j 0 == get_or groups other 0) ≡ are_equal column a row =
        elim (same_or j other) [
          | inl eq ↦
              let twin : Some a ≡ Some o = sym there ∙ ap (slice_get rows) eq ∙ here in
              let own : a ≡ o = cc in
              eq-eqb (get_or groups j 0) (get_or groups other 0) (ap (λ n. get_or groups n 0) eq) ∙ sym (ap (λ (x : Inserted). are_equal column x row) own ∙ same)
          | inr ne ↦ elim (apart_or j other ne) [
            | inl lt ↦ grouped.alike j other column a o lt (omega (arith, below, each)) there here (ta ∙ sym table) (ap (kept_of (rules_over shapes)) table ∙ is) ∙ move
            | inr gt ↦
                equal_turned (get_or groups j 0) (get_or groups other 0) ∙ grouped.alike other j column o a gt (omega (arith, low, each)) here there (table ∙ sym ta) (ap (kept_of (rules_over shapes)) ta ∙ is)
                ∙ equal_back (value_at o.entry.values column) (value_at a.entry.values column) ∙ move
          ]
        ] in
        there_is ∙ ap (λ (n : ℕ). are_equal n a row) col)

    -- one of its own, where no earlier one has its value
    pub grouped_alone : ((j column : ℕ) (a : Inserted) → j < place → slice_get rows j ≡ Some a → a.entry.table ≡ row.entry.table → kept_of (rules_over shapes) row.entry.table ≡ Some column → are_equal column a row ≡ false)
        → AreGrouped shapes rows (groups ++ place ∷ [])
    grouped_alone none =
        grouped_with place (omega arith) (λ root. absurd (omega (arith, root)))
        (λ j a low there eq. let inside = grouped.inside j (omega (arith, low, each)) in absurd (omega (arith, eq, inside, low))) (λ j column a low there table is.
        let inside = grouped.inside j (omega (arith, low, each)) in
        false_from_ne_true _ (λ e. let same = eqb-true (get_or groups j 0) place e in absurd (omega (arith, same, inside, low))) ∙ sym (none j column a low there table is))

pub none_passes : {X : Type 0} (t : X → Bool) (xs : List X) (j : ℕ) (x : X) → list_any t xs ≡ false → slice_get xs j ≡ Some x → t x ≡ false
none_passes t [] j x h at = absurd (cc)
none_passes t (y ∷ xs) zero x h at = let same : y ≡ x = cc in ap t (sym same) ∙ (or_parts (t y) _ h).0
none_passes t (y ∷ xs) (suc j) x h at = none_passes t xs j x (or_parts (t y) _ h).1 at

slice_get_within : {X : Type 0} (n : ℕ) (xs : List X) (j : ℕ) (x : X) → j < n → slice_get xs j ≡ Some x → slice_get (take n xs) j ≡ Some x
slice_get_within zero xs j x low at = absurd (omega (arith, low))
slice_get_within (suc n) [] j x low at = absurd (cc)
slice_get_within (suc n) (y ∷ xs) zero x low at = at
slice_get_within (suc n) (y ∷ xs) (suc j) x low at = slice_get_within n xs j x (omega (arith, low)) at

pub front_len : {X : Type 0} (n : ℕ) (xs : List X) → length (take n xs) ≤ n
front_len zero xs = omega arith
front_len (suc n) [] = omega arith
front_len (suc n) (x ∷ xs) = let rest = front_len n xs in omega (arith, rest)

-- the group of the row at a place is found
module _ (shapes : List Shape) (rows : List Inserted) (groups : List ℕ) (grouped : AreGrouped shapes rows groups) (place : ℕ) (row : Inserted) (each : length groups ≡ place) (at : slice_get rows place ≡ Some row) where
  pub alike_before : (other : ℕ) → first_alike shapes (take place rows) row ≡ Some other → other < place
  alike_before other g =
      let step : (o : Option ℕ) → alike_in (take place rows) row o ≡ Some other → other < place = elim [
        | None ↦ λ h. absurd cc
        | Some column ↦ λ h.
            let f = found_at (has_at row.entry.table column (value_at row.entry.values column)) 0 (take place rows) other h in
            let len = front_len place rows in
            omega (arith, f.is, f.below, len)
      ] in
      step (kept_of (rules_over shapes) row.entry.table) g

  pub alike_found : (other : ℕ) → first_alike shapes (take place rows) row ≡ Some other → AreGrouped shapes rows (groups ++ get_or groups other 0 ∷ [])
  alike_found other g =
      let step : (o : Option ℕ) → kept_of (rules_over shapes) row.entry.table ≡ o → alike_in (take place rows) row o ≡ Some other → AreGrouped shapes rows (groups ++ get_or groups other 0 ∷ []) = elim [
        | None ↦ λ is h. absurd cc
        | Some column ↦ λ is h.
            let f = found_at (has_at row.entry.table column (value_at row.entry.values column)) 0 (take place rows) other h in
            let len = front_len place rows in
            let same : f.off ≡ other = omega (arith, f.is) in
            let parts = and_parts (f.it.entry.table == row.entry.table) _ f.passes in
            grouped_there shapes rows groups grouped place row each at other column f.it (omega (arith, f.below, len, same)) (ap (slice_get rows) (sym same) ∙ slice_get_front place rows f.off f.it f.at)
            (eqb-true f.it.entry.table row.entry.table parts.0) is parts.1
      ] in
      step (kept_of (rules_over shapes) row.entry.table) refl g

  pub alike_none : first_alike shapes (take place rows) row ≡ None → AreGrouped shapes rows (groups ++ place ∷ [])
  alike_none g =
      let step : (o : Option ℕ) → kept_of (rules_over shapes) row.entry.table ≡ o → alike_in (take place rows) row o ≡ None → AreGrouped shapes rows (groups ++ place ∷ []) = elim [
        | None ↦ λ is h.
            grouped_alone shapes rows groups grouped place row each at (λ j c a low there table ic. let two : None ≡ Some c = sym is ∙ ic in absurd cc)
        | Some column ↦ λ is h.
            grouped_alone shapes rows groups grouped place row each at (λ j c a low there table ic.
            let one : Some column ≡ Some c = sym is ∙ ic in
            let col : column ≡ c = cc in
            let none : list_any (has_at row.entry.table column (value_at row.entry.values column)) (take place rows) ≡ false =
            sym (is_some-position (has_at row.entry.table column (value_at row.entry.values column)) 0 (take place rows)) ∙ ap is_some h in
            let out = none_passes (has_at row.entry.table column (value_at row.entry.values column)) (take place rows) j a none (slice_get_within place rows j a low there) in
            ap (λ n. are_equal n a row) (sym col) ∙ sym (ap (λ b. b && are_equal column a row) (eq-eqb a.entry.table row.entry.table table)) ∙ out)
      ] in
      step (kept_of (rules_over shapes) row.entry.table) refl g

-- those of the first rows
pub grouped_front : (shapes : List Shape) (rows : List Inserted) (groups : List ℕ) (n : ℕ) → AreGrouped shapes rows groups → AreGrouped shapes (take n rows) (take n groups)
grouped_front shapes rows groups n grouped =
    let fewer = front_shorter n groups in
    let front : (k : ℕ) → k < length (take n groups) → get_or (take n groups) k 0 ≡ get_or groups k 0 = λ k below. get_or_front n groups k 0 below in record {
      inside = λ k below. let e = front k below in let h = grouped.inside k (omega (arith, below, fewer)) in omega (arith, e, h);
      own = λ k below.
          let h = grouped.inside k (omega (arith, below, fewer)) in
          ap (λ m. get_or (take n groups) m 0) (front k below) ∙ front (get_or groups k 0) (omega (arith, h, below)) ∙ grouped.own k (omega (arith, below, fewer)) ∙ sym (front k below);
      apart = λ j k a b jn kn here there same.
          grouped.apart j k a b (omega (arith, jn, fewer)) (omega (arith, kn, fewer)) (slice_get_front n rows j a here) (slice_get_front n rows k b there) (sym (front j jn) ∙ same ∙ front k kn);
      alike = λ j k column a b lt below here there table is.
          (λ i. front j (omega (arith, lt, below)) i == front k below i)
          ∙ grouped.alike j k column a b lt (omega (arith, below, fewer)) (slice_get_front n rows j a here) (slice_get_front n rows k b there) table is;
    }

-- those that are known, where more rows come
pub grouped_more : (shapes : List Shape) (rows news : List Inserted) (groups : List ℕ) → length groups ≤ length rows → AreGrouped shapes rows groups → AreGrouped shapes (rows ++ news) groups
grouped_more shapes rows news groups few grouped = record {
  inside = grouped.inside;
  own = grouped.own;
  apart = λ j k a b jn kn here there same.
      grouped.apart j k a b jn kn (slice_get_old rows news j a (omega (arith, jn, few)) here) (slice_get_old rows news k b (omega (arith, kn, few)) there) same;
  alike = λ j k column a b lt below here there table is.
      grouped.alike j k column a b lt below (slice_get_old rows news j a (omega (arith, lt, below, few)) here) (slice_get_old rows news k b (omega (arith, below, few)) there) table is;
}

pub grouped_none : (shapes : List Shape) (rows : List Inserted) → AreGrouped shapes rows []
grouped_none shapes rows = record {
  inside = λ k below. absurd (omega (arith, below));
  own = λ k below. absurd (omega (arith, below));
  apart = λ j k a b jn kn here there same. absurd (omega (arith, jn));
  alike = λ j k column a b lt below here there table is. absurd (omega (arith, below));
}

pub grouped_moved : (shapes more : List Shape) (rows others : List Inserted) (groups numbers : List ℕ) → shapes ≡ more → rows ≡ others → groups ≡ numbers → AreGrouped shapes rows groups → AreGrouped more others numbers
grouped_moved shapes more rows others groups numbers a b d g =
    subst (λ (l : List ℕ). AreGrouped more others l) d (subst (λ (l : List Inserted). AreGrouped more l groups) b (subst (λ (l : List Shape). AreGrouped l rows groups) a g))

pub take_same : {X Y : Type 0} (n : ℕ) (xs : List X) (ys : List Y) → length xs ≡ length ys → length (take n xs) ≡ length (take n ys)
take_same zero xs ys h = refl
take_same (suc n) [] [] h = refl
take_same (suc n) [] (y ∷ ys) h = absurd (omega (arith, h))
take_same (suc n) (x ∷ xs) [] h = absurd (omega (arith, h))
take_same (suc n) (x ∷ xs) (y ∷ ys) h = let rest = take_same n xs ys (omega (arith, h)) in omega (arith, rest)
