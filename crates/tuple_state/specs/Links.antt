-- Numbers that belong to places, in the order in which they came.
use Rattle.std.specs.Prelude.{◌≡◌, ℕ, suc, ◌<◌, ◌==◌, Bool, true, nat_lt, List, [], ◌∷◌, length, map, filter, take, Option, None, Some, slice_get, slice_index_or, if◌then◌else◌}
use Rattle.std.specs.List.{list_all}
use Rattle.tuple_state.specs.declared.links.Link.{Link}

-- how many places there are, and which numbers belong to them
pub record Linked : Type 0 where
  pub size : ℕ
  pub links : List Link

-- whether a link is of this place
abbrev pub is_of : ℕ → Link → Bool
is_of place link = link.place == place

-- whether each link is of one of the first so many places
abbrev pub are_inside : ℕ → List Link → Bool
are_inside size links = list_all (λ link. nat_lt link.place size) links

-- the numbers that belong to a place, oldest first
abbrev pub numbers_of : List Link → ℕ → List ℕ
numbers_of links place = map (λ (link : Link). link.number) (filter (is_of place) links)

-- an index one further on, where there is one, or another one
abbrev pub further_or : Option ℕ → Option ℕ → Option ℕ
further_or None other = other
further_or (Some index) other = Some (suc index)

-- the index of the last link of a place
unfoldable pub latest : ℕ → List Link → Option ℕ
latest place [] = None
latest place (link ∷ links) = further_or (latest place links) (if is_of place link then Some 0 else None)

-- the numbers of the place of a link, up to it
abbrev pub numbers_at : List Link → Option Link → ℕ → List ℕ
numbers_at links None index = []
numbers_at links (Some link) index = numbers_of (take (suc index) links) link.place

-- the same, where there is a link
abbrev pub numbers_from : List Link → Option ℕ → List ℕ
numbers_from links None = []
numbers_from links (Some index) = numbers_at links (slice_get links index) index

-- whether an index, where there is one, is below this one
abbrev pub IsBelow : Option ℕ → ℕ → Type 0
IsBelow None limit = Unit {0}
IsBelow (Some index) limit = index < limit

-- Of each place the last link is known, and of each link the last one before it of the same place.
pub record IsLinked (newest older : List (Option ℕ)) (links : List Link) : Type 0 where
  pub each : length older ≡ length links
  pub inside : are_inside (length newest) links ≡ true
  pub last : (place : ℕ) → place < length newest → slice_index_or newest place None ≡ latest place links
  pub before : (index : ℕ) (link : Link) → slice_get links index ≡ Some link → slice_index_or older index None ≡ latest link.place (take index links)
