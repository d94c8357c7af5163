-- Groups of rows, and what is kept of them.
use Rattle.std.proofs.Common.{◌≡◌, ℕ, zero, suc, ◌+◌, ◌<◌, ◌≤◌, true, false, List, [], ◌∷◌, ◌++◌, length, take, get_or, refl, sym, ap, ◌∙◌, subst, Option, Some, None, length-append, append_assoc, arith}
use Rattle.std.specs.Prelude.{IfSome, slice_get}
use Rattle.std.proofs.lemmas.Bool.{both_ways}
use Rattle.std.proofs.lemmas.List.{length-take-le, take_more}
use Rattle.tuple_state.specs.declared.groups.Groups.{Groups}
use Rattle.tuple_state.specs.declared.inserted.Inserted.{Inserted}
use Rattle.tuple_state.specs.declared.kept_value.KeptValue.{KeptValue}
use Rattle.tuple_state.specs.declared.shape.Shape.{Shape}
use Rattle.tuple_state.specs.Grouped.{AreGroupsOf, group_at}
use Rattle.tuple_state.specs.Least.{AreGrouped}
use Rattle.tuple_state.specs.State.{keep_any}
use Rattle.tuple_state.specs.Values.{AreFirsts, below, first_alike, first_of, has_kept}
use Rattle.tuple_state.proofs.Grouping.{alike_before, alike_found, alike_none, grouped_front, grouped_more, grouped_moved, grouped_none, take_same}
use Rattle.tuple_state.proofs.Valuing.{no_place, place_cut}

take_fewer : {X Y : Type 0} (n : ℕ) (xs : List X) (ys : List Y) → length xs ≤ length ys → length (take n xs) ≤ length (take n ys)
take_fewer zero xs ys h = omega arith
take_fewer (suc n) [] ys h = omega arith
take_fewer (suc n) (x ∷ xs) [] h = absurd (omega (arith, h))
take_fewer (suc n) (x ∷ xs) (y ∷ ys) h = let rest = take_fewer n xs ys (omega (arith, h)) in omega (arith, rest)

pub take_before : {X : Type 0} (xs ys : List X) → take (length xs) (xs ++ ys) ≡ xs
take_before [] ys = refl
take_before (x ∷ xs) ys = ap (λ l. x ∷ l) (take_before xs ys)

slice_get_end : {X : Type 0} (xs : List X) (x : X) → slice_get (xs ++ x ∷ []) (length xs) ≡ Some x
slice_get_end [] x = refl
slice_get_end (y ∷ xs) x = slice_get_end xs x

-- ---- rows so far, and one more

pub length_so_far : {X : Type 0} (xs ys : List X) (n : ℕ) → n ≤ length ys → length (xs ++ take n ys) ≡ length xs + n
length_so_far xs ys n low = let all = length-append xs (take n ys) in let front = length-take-le n ys low in omega (arith, all, front)

pub one_further : {X : Type 0} (xs ys : List X) (n : ℕ) (y : X) → n < length ys → y ≡ get_or ys n y → (xs ++ take n ys) ++ y ∷ [] ≡ xs ++ take (n + 1) ys
one_further xs ys n y low is = append_assoc xs (take n ys) (y ∷ []) ∙ ap (λ l. xs ++ l) (sym (take_more ys n y low ∙ ap (λ x. take n ys ++ x ∷ []) (sym is)))

module _ {shapes : List Shape} {rows : List Inserted} {old : Groups} (are : AreGroupsOf shapes rows old) where
  -- they are the same in other room
  pub groups_moved : (new : Groups) → ((key : KeptValue) → first_of new.values key ≡ first_of old.values key) → new.numbers.items ≡ old.numbers.items → length new.least.items ≡ length old.least.items → length new.nexts.items ≡ length old.nexts.items → AreGroupsOf shapes rows new
  groups_moved new firsts numbers least nexts = record {
    grouped = grouped_moved shapes shapes rows rows old.numbers.items new.numbers.items refl refl (sym numbers) are.grouped;
    firsts = λ keeps key. firsts key ∙ are.firsts keeps key;
    sized = λ keeps. ap length numbers ∙ are.sized keeps;
    few = let len = ap length numbers in let few = are.few in omega (arith, len, few);
    spare = least ∙ are.spare ∙ sym (ap length numbers);
    threaded = nexts ∙ are.threaded ∙ sym (ap length numbers);
  }

  -- those of the first rows
  pub groups_cut : (new : Groups) (n : ℕ) → ((key : KeptValue) → first_of new.values key ≡ below n (first_of old.values key)) → new.numbers.items ≡ take n old.numbers.items → new.least.items ≡ take n old.least.items → new.nexts.items ≡ take n old.nexts.items
      → AreGroupsOf shapes (take n rows) new
  groups_cut new n firsts numbers least nexts = record {
    grouped = grouped_moved shapes shapes (take n rows) (take n rows) (take n old.numbers.items) new.numbers.items refl refl (sym numbers) (grouped_front shapes rows old.numbers.items n are.grouped);
    firsts = λ keeps key. firsts key ∙ ap (below n) (are.firsts keeps key) ∙ place_cut (has_kept shapes key) n rows;
    sized = λ keeps. ap length numbers ∙ take_same n old.numbers.items rows (are.sized keeps);
    few = let len = ap length numbers in let few = take_fewer n old.numbers.items rows are.few in omega (arith, len, few);
    spare = ap length least ∙ take_same n old.least.items old.numbers.items are.spare ∙ sym (ap length numbers);
    threaded = ap length nexts ∙ take_same n old.nexts.items old.numbers.items are.threaded ∙ sym (ap length numbers);
  }

  -- where no table keeps the least row of each value, more rows change nothing
  pub groups_plain : (news : List Inserted) → keep_any shapes ≡ false → AreGroupsOf shapes (rows ++ news) old
  groups_plain news plain = record {
    grouped = grouped_more shapes rows news old.numbers.items are.few are.grouped;
    firsts = λ keeps. absurd (both_ways _ plain keeps);
    sized = λ keeps. absurd (both_ways _ plain keeps);
    few = let len = length-append rows news in let few = are.few in omega (arith, len, few);
    spare = are.spare;
    threaded = are.threaded;
  }

  -- ---- one more row

  module _ (keeps : keep_any shapes ≡ true) (row : Inserted) (first : Option ℕ) (is : first ≡ first_alike shapes rows row) where
    front_is : first_alike shapes (take (length rows) (rows ++ row ∷ [])) row ≡ first
    front_is = ap (λ (l : List Inserted). first_alike shapes l row) (take_before rows (row ∷ [])) ∙ sym is

    whole : AreGrouped shapes (rows ++ row ∷ []) old.numbers.items
    whole = grouped_more shapes rows (row ∷ []) old.numbers.items are.few are.grouped

    pub first_there : IfSome first (λ k. k < length old.numbers.items)
    first_there =
        let step : (o : Option ℕ) → first_alike shapes (take (length rows) (rows ++ row ∷ [])) row ≡ o → IfSome o (λ k. k < length old.numbers.items) = elim [
          | None ↦ λ h. tt
          | Some k ↦ λ h.
              let low = alike_before shapes (rows ++ row ∷ []) old.numbers.items whole (length rows) row (are.sized keeps) (slice_get_end rows row) k h in
              let size = are.sized keeps in
              omega (arith, low, size)
        ] in
        step first front_is

    grouped_too : AreGrouped shapes (rows ++ row ∷ []) (old.numbers.items ++ group_at old.numbers.items first (length rows) ∷ [])
    grouped_too =
        let step : (o : Option ℕ) → first_alike shapes (take (length rows) (rows ++ row ∷ [])) row ≡ o → AreGrouped shapes (rows ++ row ∷ []) (old.numbers.items ++ group_at old.numbers.items o (length rows) ∷ []) = elim [
          | None ↦ alike_none shapes (rows ++ row ∷ []) old.numbers.items whole (length rows) row (are.sized keeps) (slice_get_end rows row)
          | Some k ↦ alike_found shapes (rows ++ row ∷ []) old.numbers.items whole (length rows) row (are.sized keeps) (slice_get_end rows row) k
        ] in
        step first front_is

    pub groups_more : (new : Groups) (group place : ℕ) → AreFirsts shapes (rows ++ row ∷ []) new.values → place ≡ length rows → group ≡ group_at old.numbers.items first place → new.numbers.items ≡ old.numbers.items ++ group ∷ []
        → length new.least.items ≡ length old.least.items + 1 → length new.nexts.items ≡ length old.nexts.items + 1 → AreGroupsOf shapes (rows ++ row ∷ []) new
    groups_more new group place firsts at so numbers least nexts =
        let all = length-append rows (row ∷ []) in
        let len = ap length numbers ∙ length-append old.numbers.items (group ∷ []) in
        let size = are.sized keeps in record {
          grouped = subst (λ (l : List ℕ). AreGrouped shapes (rows ++ row ∷ []) l) (sym (numbers ∙ ap (λ g. old.numbers.items ++ g ∷ []) (so ∙ ap (group_at old.numbers.items first) at))) grouped_too;
          firsts = λ _. firsts;
          sized = λ _. omega (arith, all, len, size);
          few = omega (arith, all, len, size);
          spare = let spare = are.spare in omega (arith, least, spare, len);
          threaded = let threaded = are.threaded in omega (arith, nexts, threaded, len);
        }

-- those of no rows
pub groups_none : (shapes : List Shape) (new : Groups) → ((key : KeptValue) → first_of new.values key ≡ None) → new.numbers.items ≡ [] → new.least.items ≡ [] → new.nexts.items ≡ [] → AreGroupsOf shapes [] new
groups_none shapes new firsts numbers least nexts = record {
  grouped = grouped_moved shapes shapes [] [] [] new.numbers.items refl refl (sym numbers) (grouped_none shapes []);
  firsts = λ keeps key. firsts key;
  sized = λ keeps. ap length numbers;
  few = let len = ap length numbers in omega (arith, len);
  spare = ap length least ∙ sym (ap length numbers);
  threaded = ap length nexts ∙ sym (ap length numbers);
}

-- they are those of rows that are the same
pub groups_at : {shapes more : List Shape} {rows others : List Inserted} {groups : Groups} → shapes ≡ more → rows ≡ others → AreGroupsOf shapes rows groups → AreGroupsOf more others groups
groups_at {more = more} {rows = rows} {groups = groups} a b are = subst (λ (l : List Inserted). AreGroupsOf more l groups) b (subst (λ (l : List Shape). AreGroupsOf l rows groups) a are)
