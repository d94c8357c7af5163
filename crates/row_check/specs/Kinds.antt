-- The kinds of the columns that an expression reads.
use Rattle.std.specs.Prelude.{ℕ, ◌≡◌, List, [], ◌∷◌, Option, Some, None, IsSome, slice_get, All}
use Rattle.update_model.specs.declared.value.Value.{Value}
use Rattle.update_model.specs.declared.value.Value.TheVariants as value
use Rattle.row_check.specs.declared.term.Term.{Term}
use Rattle.row_check.specs.declared.term.Term.TheVariants as term
use Rattle.row_check.specs.declared.kind.Kind.{Kind}
use Rattle.row_check.specs.declared.kind.Kind.TheVariants as kind
use Rattle.row_check.specs.Trees.{Tree, Both, Either, Negation, Comparison, Absence, Check}

-- a kind that an expression may read
abbrev pub unless_reference : Option Kind → Option Kind
unless_reference (Some kind.Reference) = None
unless_reference found = found

-- the kind of a plain column, and none of a reference or where there is no such column
abbrev pub plain_kind : List Kind → ℕ → Option Kind
plain_kind kinds column = unless_reference (slice_get kinds column)

-- the kind of a literal
abbrev pub literal_kind : Value → Option Kind
literal_kind (value.Int n) = Some kind.Int
literal_kind (value.Text bytes) = Some kind.Text
literal_kind (value.Flag flag) = Some kind.Flag
literal_kind other = None

-- the kind of LEN, which is of a text alone
abbrev pub length_kind : Option Kind → Option Kind
length_kind (Some kind.Text) = Some kind.Int
length_kind other = None

-- the kind of a side of a comparison
abbrev pub term_kind : List Kind → Term → Option Kind
term_kind kinds (term.Column column) = plain_kind kinds column
term_kind kinds (term.Literal literal) = literal_kind literal
term_kind kinds (term.Length column) = length_kind (plain_kind kinds column)

-- Each column that is read is a plain one, LEN is of a text, and the sides of each comparison have one kind.
abbrev pub HasKinds : List Kind → Tree → Type 0
HasKinds kinds (Both a b) = HasKinds kinds a × HasKinds kinds b
HasKinds kinds (Either a b) = HasKinds kinds a × HasKinds kinds b
HasKinds kinds (Negation a) = HasKinds kinds a
HasKinds kinds (Comparison left cmp right) = IsSome (term_kind kinds left) × (term_kind kinds left ≡ term_kind kinds right)
HasKinds kinds (Absence column) = IsSome (plain_kind kinds column)
HasKinds kinds (Check number columns) = All (λ column. IsSome (plain_kind kinds column)) columns

-- a value of a kind, or null. A reference may be any value, since no expression reads it
abbrev pub IsOfKind : Kind → Value → Type 0
IsOfKind kind.Reference any = Unit {0}
IsOfKind kind value.Null = Unit {0}
IsOfKind kind.Int (value.Int n) = Unit {0}
IsOfKind kind.Text (value.Text bytes) = Unit {0}
IsOfKind kind.Flag (value.Flag flag) = Unit {0}
IsOfKind kind value = ⊥

-- the row has a value of its kind or null in each column, and no other columns
abbrev pub FitsKinds : List Kind → List Value → Type 0
FitsKinds [] [] = Unit {0}
FitsKinds (kind ∷ kinds) (value ∷ row) = IsOfKind kind value × FitsKinds kinds row
FitsKinds kinds row = ⊥
