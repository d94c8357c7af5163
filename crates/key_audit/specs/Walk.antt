-- What is kept of each one-time key while updates are gone through, and the entries that are made of it.
use Rattle.std.specs.Prelude.{ℕ, Bool, List, [], ◌∷◌, ◌++◌, Option, Some, None, option_map}
use Rattle.std.specs.Borrow.{Bor}
use Rattle.std.specs.declared.cmp.Ordering.{Ordering}
use Rattle.std.specs.Ordering.{is_eq, nat_cmp, ordering_then}
use Rattle.std.specs.Cmp.Lexicographic.{slice_cmp}
use Rattle.update_model.specs.declared.author_key.AuthorKey.{AuthorKey}
use Rattle.update_codec.specs.Parts.{author_of, id_of}
use Rattle.update_check.specs.declared.checked_update.Checked.{Checked}
use Rattle.key_audit.specs.Doubles.{index_of}
use Rattle.key_audit.specs.Pairs.{Pair as PairData}
use Rattle.key_audit.specs.declared.doubled.Doubled.{Doubled}
use Rattle.key_audit.specs.declared.one_time.OneTime.{OneTime}
use Rattle.key_audit.specs.declared.walk.Pair.{Pair}

-- keys by their fields
abbrev pub key_cmp : AuthorKey → AuthorKey → Ordering
key_cmp a b = ordering_then (nat_cmp a.lms b.lms) (ordering_then (nat_cmp a.ots b.ots) (ordering_then (slice_cmp nat_cmp a.ident b.ident) (slice_cmp nat_cmp a.root b.root)))

-- one-time keys by the key and the index
abbrev pub one_time_cmp : OneTime → OneTime → Ordering
one_time_cmp a b = ordering_then (key_cmp a.key b.key) (nat_cmp a.index b.index)

-- the one-time key of an update
abbrev pub one_time_of : List ℕ → OneTime
one_time_of bytes = record { key = author_of bytes; index = index_of bytes }

-- whether an update is by this one-time key
abbrev pub is_by : OneTime → List ℕ → Bool
is_by key bytes = is_eq (one_time_cmp (one_time_of bytes) key)

-- a pair as its updates
abbrev pub pair_data : Pair → PairData
pair_data pair = record { first = pair.first.now; second = option_map (λ update. update.now) pair.second }

-- the entry of a one-time key whose first update is this, where it has a second one
abbrev pub double_by : OneTime → List ℕ → Option (Bor Checked) → List Doubled
double_by key first None = []
double_by key first (Some second) = record { key = key.key; index = key.index; first = id_of first; second = id_of second.now } ∷ []

-- the entry of a pair, where it has a second update
abbrev pub double_at : OneTime → Pair → List Doubled
double_at key pair = double_by key pair.first.now pair.second

-- the entries of what was found, in order
abbrev pub doubles_in : List (OneTime × Pair) → List Doubled
doubles_in [] = []
doubles_in (entry ∷ entries) = double_at entry.0 entry.1 ++ doubles_in entries
