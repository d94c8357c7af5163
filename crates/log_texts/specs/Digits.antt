-- How many digits tell ids apart.
use Rattle.std.specs.Prelude.{ℕ, zero, suc, ◌-◌, ◌&&◌, Bool, true, not, cond, List, [], ◌∷◌, take}
use Rattle.std.specs.Cmp.Lexicographic.{slice_cmp}
use Rattle.std.specs.List.{list_any}
use Rattle.std.specs.Ordering.{is_eq, nat_cmp}
use Rattle.update_model.specs.declared.update_id.UpdateId.{UpdateId}
use Rattle.table_text.specs.Names.{id_text}

-- whether the first digits of an id, so many, are these
abbrev pub starts_as : ℕ → List ℕ → UpdateId → Bool
starts_as digits text id = is_eq (slice_cmp nat_cmp (take digits (id_text id)) text)

-- whether no two of these ids begin with the same digits, so many
abbrev pub are_apart : ℕ → List UpdateId → Bool
are_apart digits [] = true
are_apart digits (id ∷ ids) = not (list_any (starts_as digits (take digits (id_text id))) ids) && are_apart digits ids

-- The least number of digits that tells these ids apart, of the last so many numbers below 64; or else 64.
abbrev pub digits_within : ℕ → List UpdateId → ℕ
digits_within zero ids = 64
digits_within (suc left) ids = cond (are_apart (63 - left) ids) (63 - left) (digits_within left ids)

-- the least number of digits from 8 to 63 that tells these ids apart, or else 64
abbrev pub digits_of : List UpdateId → ℕ
digits_of ids = digits_within 56 ids
