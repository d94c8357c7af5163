-- Counts of why rows are absent, by the links from each row to those that name it.
use Rattle.std.specs.Prelude.{◌≡◌, ℕ, zero, suc, ◌+◌, ◌-◌, ◌<◌, ◌≤◌, ◌==◌, Bool, true, not, ◌&&◌, nat_lt, List, [], ◌∷◌, ◌++◌, length, map, count_by, sum_by, drop, filter, take, slice_index_or, if◌then◌else◌}
use Rattle.std.specs.List.{list_all}
use Rattle.table_model.specs.Visible.{Rules, cascade_refs}
use Rattle.tuple_state.specs.declared.dropped.Dropped.{Dropped}
use Rattle.tuple_state.specs.declared.inserted.Inserted.{Inserted}
use Rattle.tuple_state.specs.declared.links.Link.{Link}
use Rattle.tuple_state.specs.Links.{is_of}
use Rattle.tuple_state.specs.State.{dropped_at, row_of}

-- whether the count of a place is not 0
abbrev pub is_absent : List ℕ → ℕ → Bool
is_absent causes place = not (slice_index_or causes place 0 == 0)

-- how often a place has a number
abbrev pub times_of : List Link → ℕ → ℕ → ℕ
times_of links place number = count_by (λ link. is_of place link && (link.number == number)) links

-- how often any place has it
abbrev pub times_in : List Link → ℕ → ℕ
times_in links number = count_by (λ link. link.number == number) links

-- how often absent places have it
abbrev pub absent_times : List Link → List ℕ → ℕ → ℕ
absent_times links causes number = count_by (λ link. is_absent causes link.place && (link.number == number)) links

-- how often pending places have it
abbrev pub pending_times : List Link → List ℕ → ℕ → ℕ
pending_times links pending number = sum_by (λ place. times_of links place number) pending

-- how many counts are 0
abbrev pub standing : List ℕ → ℕ
standing causes = count_by (λ n. n == 0) causes

-- 1 at a place, and 0 elsewhere
abbrev pub one_at : ℕ → ℕ → ℕ
one_at place k = if place == k then 1 else 0

-- whether these places are among the first so many
abbrev pub are_below : ℕ → List ℕ → Bool
are_below limit places = list_all (λ place. nat_lt place limit) places

-- Counts have grown by so much, and each place whose count has left 0 is pending.
pub record Raised (links : List Link) (more : ℕ → ℕ) (causes pending grown left : List ℕ) : Type 0 where
  pub count : (k : ℕ) → slice_index_or grown k 0 ≡ slice_index_or causes k 0 + more k
  pub owes : (k : ℕ) → absent_times links grown k + pending_times links pending k ≡ absent_times links causes k + pending_times links left k
  pub each : length grown ≡ length causes
  pub work : standing grown + length left ≡ standing causes + length pending
  pub inside : are_below (length causes) pending ≡ true → are_below (length causes) left ≡ true

-- Numbers from one on and below another rise, and each belongs to a place before it.
unfoldable pub AreRising : ℕ → ℕ → List Link → Type 0
AreRising low high [] = Unit {0}
AreRising low high (link ∷ links) = (low ≤ link.number) × (link.number < high) × (link.place < link.number) × AreRising link.number high links

-- the names that these rows name by CASCADE, each with the place of the row that names it, where places number from here
unfoldable pub parents_from : Rules → ℕ → List Inserted → List Dropped
parents_from rules place [] = []
parents_from rules place (it ∷ rows) = map (λ r. dropped_at place r.name) (cascade_refs rules (row_of it)) ++ parents_from rules (place + 1) rows

-- of these rows, for each how many names it and those before it name by CASCADE, where names number from here
unfoldable pub ends_from : Rules → ℕ → List Inserted → List ℕ
ends_from rules from [] = []
ends_from rules from (it ∷ rows) = (from + length (cascade_refs rules (row_of it))) ∷ ends_from rules (from + length (cascade_refs rules (row_of it))) rows

-- where the numbers of a place begin, if those of each place end there
abbrev pub begin_of : List ℕ → ℕ → ℕ
begin_of ends zero = 0
begin_of ends (suc k) = slice_index_or ends k 0

-- The links with the number of a place are those from the end of the place before it up to its own.
pub record AreParted (links : List Link) (ends : List ℕ) : Type 0 where
  pub rises : (k : ℕ) → k < length ends → begin_of ends k ≤ slice_index_or ends k 0
  pub few : (k : ℕ) → k < length ends → slice_index_or ends k 0 ≤ length links
  pub own : (k : ℕ) → k < length ends → take (slice_index_or ends k 0 - begin_of ends k) (drop (begin_of ends k) links) ≡ filter (λ link. link.number == k) links
