-- The orders of values and of rows are total.
use Rattle.std.proofs.Common.{◌≡◌, ◌∙◌, ℕ, ℤ, pos, suc, ◌+◌, Bool, true, false, List, [], ◌∷◌, refl, sym, ap, subst, arith}
use Rattle.std.specs.Cmp.{IsTotalOrder, bool_cmp_total}
use Rattle.std.specs.Cmp.Lexicographic.{slice_cmp}
use Rattle.std.specs.declared.cmp.Ordering.{Ordering}
use Rattle.std.specs.declared.cmp.Ordering.TheVariants.{Less, Equal, Greater}
use Rattle.std.specs.Ordering.{bool_cmp, int_cmp, nat_cmp, ordering_then, on, then_cmp}
use Rattle.std.proofs.lemmas.Cmp.{back_total, int_cmp_total, nat_cmp_total, nat_list_cmp_total, on_total, then_total}
use Rattle.update_model.specs.declared.row_name.RowName.{RowName}
use Rattle.update_model.specs.declared.value.Value.{Value}
use Rattle.update_model.specs.declared.value.Value.TheVariants.{Null, Int, Text, Flag, Row, Own}
use Rattle.row_check.specs.Meaning.{value_at}
use Rattle.table_model.specs.declared.shown_row.ShownRow.{ShownRow}
use Rattle.table_model.specs.Tables.{name_cmp}
use Rattle.table_model.proofs.Rising.{name_cmp_total}
use Rattle.query.specs.declared.item.Key.{Key}
use Rattle.query_answer.specs.Answers.{LineData, data_cmp, keys_of, line_cmp, line_data}
use Rattle.query_answer.specs.Order.{rank_of, value_cmp, key_cmp, keys_cmp, row_cmp, found_cmp}
use Rattle.query_answer.specs.Values.{value_of}

-- ---- values

abbrev int_in : Value → ℤ
int_in (Int n) = n
int_in other = pos 0

abbrev text_in : Value → List ℕ
text_in (Text bytes) = bytes
text_in other = []

abbrev flag_in : Value → Bool
flag_in (Flag flag) = flag
flag_in other = false

abbrev name_in : Value → RowName
name_in (Row name) = name
name_in other = record { update = record { 0 = [] }; index = 0 }

-- by kinds, and then by what values of each kind have
abbrev flat_cmp : Value → Value → Ordering
flat_cmp =
    then_cmp (on rank_of nat_cmp) (then_cmp (on int_in int_cmp) (then_cmp (on text_in (slice_cmp nat_cmp)) (then_cmp (on flag_in bool_cmp) (on name_in name_cmp))))

flat_total : IsTotalOrder flat_cmp
flat_total =
    then_total (on_total rank_of nat_cmp_total) (then_total (on_total int_in int_cmp_total)
    (then_total (on_total text_in nat_list_cmp_total) (then_total (on_total flag_in bool_cmp_total) (on_total name_in name_cmp_total))))

then_nothing : (o : Ordering) → o ≡ ordering_then o Equal
then_nothing Less = refl
then_nothing Equal = refl
then_nothing Greater = refl

same_cmp : (a b : Value) → value_cmp a b ≡ flat_cmp a b
same_cmp Null Null = refl
same_cmp Null (Int n) = refl
same_cmp Null (Text bytes) = refl
same_cmp Null (Flag flag) = refl
same_cmp Null (Row name) = refl
same_cmp Null (Own index) = refl
same_cmp (Int m) Null = refl
same_cmp (Int m) (Int n) = then_nothing (int_cmp m n)
same_cmp (Int m) (Text bytes) = refl
same_cmp (Int m) (Flag flag) = refl
same_cmp (Int m) (Row name) = refl
same_cmp (Int m) (Own index) = refl
same_cmp (Text some) Null = refl
same_cmp (Text some) (Int n) = refl
same_cmp (Text some) (Text bytes) = then_nothing (slice_cmp nat_cmp some bytes)
same_cmp (Text some) (Flag flag) = refl
same_cmp (Text some) (Row name) = refl
same_cmp (Text some) (Own index) = refl
same_cmp (Flag one) Null = refl
same_cmp (Flag one) (Int n) = refl
same_cmp (Flag one) (Text bytes) = refl
same_cmp (Flag one) (Flag flag) = then_nothing (bool_cmp one flag)
same_cmp (Flag one) (Row name) = refl
same_cmp (Flag one) (Own index) = refl
same_cmp (Row it) Null = refl
same_cmp (Row it) (Int n) = refl
same_cmp (Row it) (Text bytes) = refl
same_cmp (Row it) (Flag flag) = refl
same_cmp (Row it) (Row name) = refl
same_cmp (Row it) (Own index) = refl
same_cmp (Own at) Null = refl
same_cmp (Own at) (Int n) = refl
same_cmp (Own at) (Text bytes) = refl
same_cmp (Own at) (Flag flag) = refl
same_cmp (Own at) (Row name) = refl
same_cmp (Own at) (Own index) = refl

pub value_total : IsTotalOrder value_cmp
value_total = subst IsTotalOrder (λ i a b. sym (same_cmp a b) i) flat_total

key_total : (descending : Bool) → IsTotalOrder (key_cmp descending)
key_total false = value_total
key_total true = back_total value_total

tied : {X : Type 0} → IsTotalOrder (λ (a b : X). Equal)
tied = record { antisymm = λ x y. refl; trans = λ x y z p q. p; congr = λ x y z p. refl }

-- ---- rows

keys_total : (tables : List (List ShownRow)) (keys : List Key) → IsTotalOrder (keys_cmp tables keys)
keys_total tables [] = tied
keys_total tables (key ∷ keys) = then_total (on_total (λ (row : ShownRow). value_of tables row key.source) (key_total key.descending)) (keys_total tables keys)

pub row_total : (tables : List (List ShownRow)) (keys : List Key) → IsTotalOrder (row_cmp tables keys)
row_total tables keys = then_total (keys_total tables keys) (on_total (λ (row : ShownRow). row.name) name_cmp_total)

-- ---- values that were found once

found_total : (at : ℕ) (keys : List Key) → IsTotalOrder (found_cmp at keys)
found_total at [] = tied
found_total at (key ∷ keys) = then_total (on_total (λ (values : List Value). value_at values at) (key_total key.descending)) (found_total (at + 1) keys)

pub data_total : (keys : List Key) → IsTotalOrder (data_cmp keys)
data_total keys = then_total (on_total (λ (line : LineData). line.1) (found_total 0 keys)) (on_total (λ (line : LineData). line.0.name) name_cmp_total)

pub line_total : (keys : List Key) → IsTotalOrder (line_cmp keys)
line_total keys = on_total line_data (data_total keys)

shift : (keys : List Key) (at : ℕ) (x y : Value) (a b : List Value) → found_cmp (suc at) keys (x ∷ a) (y ∷ b) ≡ found_cmp at keys a b
shift [] at x y a b = refl
shift (key ∷ keys) at x y a b =
    let more : suc at + 1 ≡ suc (at + 1) = omega arith in
    ap (ordering_then (key_cmp key.descending (value_at a at) (value_at b at))) (ap (λ (n : ℕ). found_cmp n keys (x ∷ a) (y ∷ b)) more ∙ shift keys (at + 1) x y a b)

-- the values of keys that were found order rows as the keys do
pub found_as_keys : (tables : List (List ShownRow)) (keys : List Key) (a b : ShownRow) → found_cmp 0 keys (keys_of tables keys a) (keys_of tables keys b) ≡ keys_cmp tables keys a b
found_as_keys tables [] a b = refl
found_as_keys tables (key ∷ keys) a b =
    let first = λ (row : ShownRow). value_of tables row key.source in
    ap (ordering_then (key_cmp key.descending (first a) (first b))) (shift keys 0 (first a) (first b) (keys_of tables keys a) (keys_of tables keys b) ∙ found_as_keys tables keys a b)
