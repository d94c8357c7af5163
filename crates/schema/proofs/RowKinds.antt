-- Rows that fit their columns have values of their kinds.
use Rattle.std.proofs.Common.{◌≡◌, true, List, [], ◌∷◌, refl, sym, subst}
use Rattle.std.specs.Prelude.{if◌then◌else◌}
use Rattle.std.proofs.lemmas.Bool.{and_parts}
use Rattle.update_model.specs.declared.value.Value.{Value}
use Rattle.update_model.specs.declared.value.Value.TheVariants as value
use Rattle.row_check.specs.Meaning.{is_null}
use Rattle.row_check.specs.Kinds.{IsOfKind, FitsKinds}
use Rattle.schema.specs.declared.column.Column.{Column}
use Rattle.schema.specs.declared.column.ColumnKind.{ColumnKind}
use Rattle.schema.specs.declared.column.ColumnKind.TheVariants as kind
use Rattle.schema.specs.Columns.{is_reference, kind_seen, kinds_of, fits_kind, fits, all_fit}
use Rattle.schema.specs.Rows.{fits_sample_at, fits_sample}

of_kind : (k : ColumnKind) (v : Value) → fits_kind k v ≡ true → IsOfKind (kind_seen k) v
of_kind (kind.Int lo hi) value.Null h = tt
of_kind (kind.Int lo hi) (value.Int n) h = tt
of_kind (kind.Int lo hi) (value.Text bytes) h = absurd cc
of_kind (kind.Int lo hi) (value.Flag flag) h = absurd cc
of_kind (kind.Int lo hi) (value.Row row) h = absurd cc
of_kind (kind.Int lo hi) (value.Own index) h = absurd cc
of_kind (kind.Text lo hi) value.Null h = tt
of_kind (kind.Text lo hi) (value.Int n) h = absurd cc
of_kind (kind.Text lo hi) (value.Text bytes) h = tt
of_kind (kind.Text lo hi) (value.Flag flag) h = absurd cc
of_kind (kind.Text lo hi) (value.Row row) h = absurd cc
of_kind (kind.Text lo hi) (value.Own index) h = absurd cc
of_kind kind.Flag value.Null h = tt
of_kind kind.Flag (value.Int n) h = absurd cc
of_kind kind.Flag (value.Text bytes) h = absurd cc
of_kind kind.Flag (value.Flag flag) h = tt
of_kind kind.Flag (value.Row row) h = absurd cc
of_kind kind.Flag (value.Own index) h = absurd cc
of_kind (kind.Reference target act) v h = tt

null_of_kind : (k : ColumnKind) → IsOfKind (kind_seen k) value.Null
null_of_kind (kind.Int lo hi) = tt
null_of_kind (kind.Text lo hi) = tt
null_of_kind kind.Flag = tt
null_of_kind (kind.Reference target act) = tt

column_kind : (c : Column) (v : Value) → fits c v ≡ true → IsOfKind (kind_seen c.kind) v
column_kind c value.Null h = null_of_kind c.kind
column_kind c (value.Int n) h = of_kind c.kind (value.Int n) h
column_kind c (value.Text bytes) h = of_kind c.kind (value.Text bytes) h
column_kind c (value.Flag flag) h = of_kind c.kind (value.Flag flag) h
column_kind c (value.Row row) h = of_kind c.kind (value.Row row) h
column_kind c (value.Own index) h = of_kind c.kind (value.Own index) h

-- a row that fits has values of the kinds of its columns
pub fits_kinds : (columns : List Column) (row : List Value) → all_fit columns row ≡ true → FitsKinds (kinds_of columns) row
fits_kinds [] [] h = tt
fits_kinds [] (v ∷ vs) h = absurd cc
fits_kinds (c ∷ cs) [] h = absurd cc
fits_kinds (c ∷ cs) (v ∷ vs) h = let parts = and_parts (fits c v) (all_fit cs vs) h in (column_kind c v parts.0, fits_kinds cs vs parts.1)

sample_kind : (c : Column) (v : Value) (k : ColumnKind) → k ≡ c.kind → (if is_reference k then is_null v else fits c v) ≡ true → IsOfKind (kind_seen k) v
sample_kind c v (kind.Int lo hi) e h = subst (λ (k : ColumnKind). IsOfKind (kind_seen k) v) (sym e) (column_kind c v h)
sample_kind c v (kind.Text lo hi) e h = subst (λ (k : ColumnKind). IsOfKind (kind_seen k) v) (sym e) (column_kind c v h)
sample_kind c v kind.Flag e h = subst (λ (k : ColumnKind). IsOfKind (kind_seen k) v) (sym e) (column_kind c v h)
sample_kind c v (kind.Reference target act) e h = tt

-- so has a sample
pub sample_kinds : (columns : List Column) (row : List Value) → fits_sample columns row ≡ true → FitsKinds (kinds_of columns) row
sample_kinds [] [] h = tt
sample_kinds [] (v ∷ vs) h = absurd cc
sample_kinds (c ∷ cs) [] h = absurd cc
sample_kinds (c ∷ cs) (v ∷ vs) h =
    let parts = and_parts (fits_sample_at c v) (fits_sample cs vs) h in (sample_kind c v c.kind refl parts.0, sample_kinds cs vs parts.1)
