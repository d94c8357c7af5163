-- Columns that are no references show what was inserted, and expressions read no others.
use Rattle.std.proofs.Common.{is_some, ◌≡◌, ℕ, zero, suc, Bool, true, false, not, ◌&&◌, ◌||◌, List, [], ◌∷◌, map, refl, ap, ap₂, subst, Option, Some, None, slice_get, All}
use Rattle.std.specs.Prelude.{IsSome}
use Rattle.std.proofs.lemmas.List.Elements.{All-head, All-tail}
use Rattle.update_model.specs.declared.value.Value.{Value}
use Rattle.update_model.specs.declared.value.Value.TheVariants as value
use Rattle.row_check.specs.declared.term.Term.{Term}
use Rattle.row_check.specs.declared.term.Term.TheVariants as term
use Rattle.row_check.specs.Comparisons.{compares}
use Rattle.row_check.specs.Meaning.{value_at, is_null, length_of, term_value}
use Rattle.row_check.specs.declared.kind.Kind.{Kind}
use Rattle.row_check.specs.declared.kind.Kind.TheVariants as seen
use Rattle.row_check.specs.Kinds.{unless_reference, plain_kind, length_kind, term_kind, HasKinds}
use Rattle.row_check.specs.Trees.{Tree, Both, Either, Negation, Comparison, Absence, Check, holds_tree}
use Rattle.schema.specs.declared.column.Column.{Column}
use Rattle.schema.specs.declared.column.ColumnKind.{ColumnKind}
use Rattle.schema.specs.declared.column.ColumnKind.TheVariants as kind
use Rattle.schema.specs.Columns.{target_of, is_reference, kind_seen, kinds_of, is_comparable, are_comparable}
use Rattle.table_model.specs.Visible.{Rules, Effects, shown_value, shown_values}

-- whether there is a column with this number, and it is no reference
abbrev pub is_plain : List Column → ℕ → Bool
is_plain [] number = false
is_plain (column ∷ columns) zero = not (is_reference column.kind)
is_plain (column ∷ columns) (suc number) = is_plain columns number

plain_seen : (k : ColumnKind) → IsSome (unless_reference (Some (kind_seen k))) → not (is_reference k) ≡ true
plain_seen (kind.Int lo hi) h = refl
plain_seen (kind.Text lo hi) h = refl
plain_seen kind.Flag h = refl
plain_seen (kind.Reference target act) h = absurd (cc)

pub plain_from_kind : (columns : List Column) (number : ℕ) → IsSome (plain_kind (kinds_of columns) number) → is_plain columns number ≡ true
plain_from_kind [] number h = absurd (cc)
plain_from_kind (column ∷ columns) zero h = plain_seen column.kind h
plain_from_kind (column ∷ columns) (suc number) h = plain_from_kind columns number h

reference_compares : (k : Kind) → is_comparable seen.Reference k ≡ true → ⊥
reference_compares seen.Int h = cc
reference_compares seen.Text h = cc
reference_compares seen.Flag h = cc
reference_compares seen.Reference h = cc

compares_reference : (k : Kind) → is_comparable k seen.Reference ≡ true → ⊥
compares_reference seen.Int h = cc
compares_reference seen.Text h = cc
compares_reference seen.Flag h = cc
compares_reference seen.Reference h = cc

left_plain : (k : ColumnKind) (other : Kind) → is_comparable (kind_seen k) other ≡ true → not (is_reference k) ≡ true
left_plain (kind.Int lo hi) other h = refl
left_plain (kind.Text lo hi) other h = refl
left_plain kind.Flag other h = refl
left_plain (kind.Reference target act) other h = absurd (reference_compares other h)

right_plain : (k : ColumnKind) (other : Kind) → is_comparable other (kind_seen k) ≡ true → not (is_reference k) ≡ true
right_plain (kind.Int lo hi) other h = refl
right_plain (kind.Text lo hi) other h = refl
right_plain kind.Flag other h = refl
right_plain (kind.Reference target act) other h = absurd (compares_reference other h)

-- the sides of a comparison that is allowed are plain columns
pub compared_left : (columns : List Column) (number : ℕ) (other : Option Column) → are_comparable (slice_get columns number) other ≡ true → is_plain columns number ≡ true
compared_left [] number other h = absurd (cc)
compared_left (column ∷ columns) zero None h = absurd (cc)
compared_left (column ∷ columns) zero (Some other) h = left_plain column.kind (kind_seen other.kind) h
compared_left (column ∷ columns) (suc number) other h = compared_left columns number other h

none_compares : (o : Option Column) → are_comparable o None ≡ true → ⊥
none_compares None h = cc
none_compares (Some column) h = cc

pub compared_right : (columns : List Column) (number : ℕ) (other : Option Column) → are_comparable other (slice_get columns number) ≡ true → is_plain columns number ≡ true
compared_right [] number other h = absurd (none_compares other h)
compared_right (column ∷ columns) zero None h = absurd (cc)
compared_right (column ∷ columns) zero (Some other) h = right_plain column.kind (kind_seen other.kind) h
compared_right (column ∷ columns) (suc number) other h = compared_right columns number other h

plain_value : (rules : Rules) (g : Effects) (k : ColumnKind) (v : Value) → not (is_reference k) ≡ true → shown_value rules g k v ≡ v
plain_value rules g k value.Null h = refl
plain_value rules g k (value.Int n) h = refl
plain_value rules g k (value.Text bytes) h = refl
plain_value rules g k (value.Flag flag) h = refl
plain_value rules g k (value.Own index) h = refl
plain_value rules g (kind.Int lo hi) (value.Row name) h = refl
plain_value rules g (kind.Text lo hi) (value.Row name) h = refl
plain_value rules g kind.Flag (value.Row name) h = refl
plain_value rules g (kind.Reference target act) (value.Row name) h = absurd (cc)

pub plain_shown : (rules : Rules) (g : Effects) (columns : List Column) (values : List Value) (number : ℕ) → is_plain columns number ≡ true
    → value_at (shown_values rules g columns values) number ≡ value_at values number
plain_shown rules g [] values number h = refl
plain_shown rules g (column ∷ columns) [] number h = refl
plain_shown rules g (column ∷ columns) (v ∷ values) zero h = plain_value rules g column.kind v h
plain_shown rules g (column ∷ columns) (v ∷ values) (suc number) h = plain_shown rules g columns values number h

length_some : (o : Option Kind) → IsSome (length_kind o) → IsSome o
length_some None h = absurd (cc)
length_some (Some k) h = refl

-- Two rows that have the same values in plain columns answer questions alike.
module _ (columns : List Column) (a b : List Value) (same : (number : ℕ) → is_plain columns number ≡ true → value_at a number ≡ value_at b number) where
  same_kind : (number : ℕ) → IsSome (plain_kind (kinds_of columns) number) → value_at a number ≡ value_at b number
  same_kind number h = same number (plain_from_kind columns number h)

  same_term : (t : Term) → IsSome (term_kind (kinds_of columns) t) → term_value a t ≡ term_value b t
  same_term (term.Column number) h = same_kind number h
  same_term (term.Literal v) h = refl
  same_term (term.Length number) h = ap length_of (same_kind number (length_some (plain_kind (kinds_of columns) number) h))

  same_columns : (numbers : List ℕ) → All (λ number. IsSome (plain_kind (kinds_of columns) number)) numbers → map (value_at a) numbers ≡ map (value_at b) numbers
  same_columns [] h = refl
  same_columns (number ∷ numbers) h =
      ap₂ (λ v vs. v ∷ vs) (same_kind number (All-head (λ n. IsSome (plain_kind (kinds_of columns) n)) number numbers h))
      (same_columns numbers (All-tail (λ n. IsSome (plain_kind (kinds_of columns) n)) number numbers h))

  pub same_holds : (ask : ℕ → List Value → Bool) (x : Tree) → HasKinds (kinds_of columns) x → holds_tree ask a x ≡ holds_tree ask b x
  same_holds ask (Both x y) h = ap₂ (λ c d. c && d) (same_holds ask x h.0) (same_holds ask y h.1)
  same_holds ask (Either x y) h = ap₂ (λ c d. c || d) (same_holds ask x h.0) (same_holds ask y h.1)
  same_holds ask (Negation x) h = ap not (same_holds ask x h)
  same_holds ask (Comparison left cmp right) h =
      ap₂ (compares cmp) (same_term left h.0) (same_term right (subst (λ (o : Option Kind). IsSome o) h.1 h.0))
  same_holds ask (Absence number) h = ap is_null (same_kind number h)
  same_holds ask (Check number numbers) h = ap (ask number) (same_columns numbers h)

pub plain_target : (k : ColumnKind) → not (is_reference k) ≡ true → is_some (target_of k) ≡ false
plain_target (kind.Int lo hi) h = refl
plain_target (kind.Text lo hi) h = refl
plain_target kind.Flag h = refl
plain_target (kind.Reference target act) h = absurd (cc)
