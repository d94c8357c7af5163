-- The first of a list in order, while more come.
use Rattle.std.specs.Prelude.{◌≡◌, ℕ, suc, ◌<◌, ◌≤◌, Bool, false, List, filter, ◌++◌, length, map, slice_index_or, take, Option, Some, None}
use Rattle.std.specs.List.Sorted.{IsPermutation}
use Rattle.std.specs.declared.cmp.Ordering.{Ordering}
use Rattle.std.specs.Ordering.{eq_by_cmp, is_gt}
use Rattle.query.specs.declared.item.Key.{Key}
use Rattle.table_model.specs.declared.shown_row.ShownRow.{ShownRow}
use Rattle.query_answer.specs.declared.front.Front.{Front}
use Rattle.query_answer.specs.InOrder.{in_order}
use Rattle.query_answer.specs.Answers.{LineData, data_cmp, keyed, limited, line_data}
use Rattle.std.specs.List.{AllByRecursion, IsDistinct}

-- Of all of these some are kept, among them the first in order, as many as the limit.
pub record IsFront {X : Type 0} (cmp : X → X → Ordering) (limit : Option ℕ) (kept all : List X) : Type 0 where
  pub rest : List X
  pub exact : IsPermutation (kept ++ rest) all
  pub first : limited limit (in_order cmp kept) ≡ limited limit (in_order cmp all)

-- There are so many, and this element bounds the first of them.
pub record IsBounded {X : Type 0} (cmp : X → X → Ordering) (limit : ℕ) (kept : List X) (last : X) : Type 0 where
  pub many : limit ≤ length kept
  pub bound : AllByRecursion (λ x. is_gt (cmp x last) ≡ false) (take limit (in_order cmp kept))

-- ---- rows with the values of their keys

-- the first of these rows in order, no more than the limit, with the values of their keys
abbrev pub first_lines : List (List ShownRow) → List Key → Option ℕ → List ShownRow → List LineData
first_lines tables keys limit rows = limited limit (in_order (data_cmp keys) (map (keyed tables keys) rows))

-- those of these rows that are asked for, with the values of their keys
abbrev pub asked_lines : List (List ShownRow) → List Key → (ShownRow → Bool) → List ShownRow → List LineData
asked_lines tables keys asked rows = map (keyed tables keys) (filter asked rows)

-- No two of these tie.
abbrev pub AreApart : List Key → List LineData → Type 0
AreApart keys all = IsDistinct (eq_by_cmp (data_cmp keys)) all

-- The line at this place bounds the first of them.
pub record IsBoundedAt (keys : List Key) (limit : Option ℕ) (kept : List LineData) (place : ℕ) : Type 0 where
  pub most : ℕ
  pub is : limit ≡ Some most
  pub within : place < length kept
  pub bound : (d : LineData) → IsBounded (data_cmp keys) most kept (slice_index_or kept place d)

-- This is a front of all that came.
pub record Holds (keys : List Key) (limit : Option ℕ) (front : Front) (all : List LineData) : Type 0 where
  pub same : front.limit ≡ limit
  pub is : IsFront (data_cmp keys) limit (map line_data front.lines.items) all
  pub bounded : (place : ℕ) → front.bound ≡ Some place → IsBoundedAt keys limit (map line_data front.lines.items) place

-- whether so many are as many as the limit
abbrev pub IsReached : Option ℕ → ℕ → Type 0
IsReached None len = ⊥
IsReached (Some limit) len = limit ≤ len

-- the last place among so many, where there is one
abbrev pub IsLastPlace : ℕ → Option ℕ → Type 0
IsLastPlace len None = len ≡ 0
IsLastPlace len (Some place) = len ≡ suc place
