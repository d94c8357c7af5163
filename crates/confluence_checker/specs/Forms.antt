-- The forms in which the plain code keeps what the definitions speak of.
use Rattle.std.specs.Prelude.{◌≡◌, ℕ, ◌==◌, Bool, true, false, not, ◌&&◌, List, [], ◌∷◌, ◌++◌, map, reverse, Option, Some, None, IsTrue, if◌then◌else◌}
use Rattle.std.specs.List.{list_any, list_all}
use Rattle.update_model.specs.declared.op.Op.{Op}
use Rattle.update_model.specs.declared.op.Op.TheVariants as op
use Rattle.update_model.specs.declared.row_name.RowName.{RowName}
use Rattle.update_model.specs.Graph.{has}
use Rattle.update_model.specs.Node.{NodeData}
use Rattle.table_model.specs.declared.invariant.Invariant.{Invariant}
use Rattle.confluence_laws.specs.Confluence.{is_closed}
use Rattle.table_model.specs.declared.invariant.InvariantKind.{InvariantKind}
use Rattle.table_model.specs.declared.invariant.InvariantKind.TheVariants as kind
use Rattle.schema.specs.declared.table_def.TableDef.{TableDef}
use Rattle.table_model.specs.Invariants.{Claim, Declared, claim_holds, invariants_of, satisfies, shown_in}
use Rattle.table_model.specs.Verdicts.{Judged, keeps_least, insert_reason, delete_reason, row_inserted}
use Rattle.schema.specs.Columns.{all_fit}
use Rattle.table_model.specs.Visible.{Rules, TableRow, Effects, bare_rules, same_row, table_of}
use Rattle.confluence_checker.specs.declared.found.FoundInvariant.{FoundInvariant}
use Rattle.confluence_checker.specs.declared.judged_node.JudgedNode.{JudgedNode}

-- whether a name is among these
abbrev pub is_among : List RowName → RowName → Bool
is_among names name = list_any (same_row name) names

-- Every row has what fits in the columns of its table.
abbrev pub AllFit : List TableDef → List TableRow → Type 0
AllFit tables rows = IsTrue (list_all (λ row. all_fit (table_of (bare_rules tables) row.table).columns row.values) rows)

-- why an operation with this number may not be done, beside these rows and what earlier operations did
abbrev pub reason_against : Rules → List TableRow → NodeData → ℕ → Effects → Op → Option ℕ
reason_against rules rows node number did (op.Insert table values) = insert_reason rules (did.inserted ++ rows) (row_inserted node number table values)
reason_against rules rows node number did (op.Delete name) = delete_reason rules rows did.deleted node.author name

-- what was done, and one operation more
abbrev pub after_op : NodeData → ℕ → Effects → Op → Effects
after_op node number did (op.Insert table values) = record did { inserted = row_inserted node number table values ∷ did.inserted }
after_op node number did (op.Delete name) = record did { deleted = name ∷ did.deleted }

-- a node with its verdict, whose ancestors are those with the ids of a list
abbrev pub as_judged : JudgedNode → Judged
as_judged j = record { node = j.node; is_ancestor = has j.ancestors.items; verdict = j.verdict }

-- nodes that stand in the order of arrival, newest first
abbrev pub newest_first : List JudgedNode → List Judged
newest_first js = map as_judged (reverse js)

-- A schema declares an invariant of this name, after earlier ones.
pub record IsInvariantOf (rules : Rules) (which : Invariant) : Type 0 where
  pub earlier : List Declared
  pub later : List Declared
  pub declared : Declared
  pub split : invariants_of rules ≡ earlier ++ declared ∷ later
  pub same : declared.which ≡ which

-- kinds of invariants by number
abbrev pub kind_number : InvariantKind → ℕ
kind_number kind.Unique = 0
kind_number kind.UniqueKept = 1
kind_number kind.AtMost = 2
kind_number kind.Reference = 3
kind_number kind.Check = 4
kind_number kind.Match = 5

-- the kind of a UNIQUE of a column
abbrev pub unique_kind : Option ℕ → ℕ → InvariantKind
unique_kind kept column = if keeps_least kept column then kind.UniqueKept else kind.Unique

-- whether two names of invariants are one
abbrev pub is_same : Invariant → Invariant → Bool
is_same a b = (kind_number a.kind == kind_number b.kind) && (a.table == b.table) && (a.place == b.place) && (a.line == b.line)

-- what is found of invariants before one is looked at
abbrev pub start : FoundInvariant
start = record { earlier = true; here = None }

-- One invariant more: nothing changes where the wanted one has been found, else it is the wanted one, or an earlier one.
abbrev pub seen_by : Option Bool → FoundInvariant → Bool → Bool → FoundInvariant
seen_by (Some answer) found wanted holds = found
seen_by None found wanted holds = if wanted then record { earlier = found.earlier; here = Some holds } else record { earlier = found.earlier && holds; here = None }

-- the same, by what has been found so far
abbrev pub seen : FoundInvariant → Bool → Bool → FoundInvariant
seen found wanted holds = seen_by found.here found wanted holds

-- whether the invariants before a wanted one hold of shown rows, and whether that one does
abbrev pub found_among : Rules → List TableRow → Invariant → List Declared → FoundInvariant → FoundInvariant
found_among rules rows which [] found = found
found_among rules rows which (d ∷ ds) found = found_among rules rows which ds (seen found (is_same d.which which) (claim_holds rules rows d.claim))

-- whether there is an answer, and it is yes
abbrev pub holds_there : Option Bool → Bool
holds_there None = false
holds_there (Some holds) = holds

-- whether there is an answer, and it is no
abbrev pub fails_there : Option Bool → Bool
fails_there None = false
fails_there (Some holds) = not holds

-- whether the wanted invariant was found to hold, and those before it
abbrev pub is_kept : FoundInvariant → Bool
is_kept found = found.earlier && holds_there found.here

-- whether the wanted invariant was found not to hold
abbrev pub is_broken : FoundInvariant → Bool
is_broken found = fails_there found.here

-- whether two sides and their union, each in the order of arrival, are closed, both sides satisfy the earlier invariants and
-- this one, and the union breaks this one
abbrev pub breaks_by : Rules → List Claim → Claim → (left right both : List NodeData) → Bool
breaks_by rules earlier claim left right both =
    is_closed (reverse left) && is_closed (reverse right) && is_closed (reverse both)
    && satisfies rules (reverse left) (earlier ++ claim ∷ []) && satisfies rules (reverse right) (earlier ++ claim ∷ [])
    && not (claim_holds rules (shown_in rules (reverse both)) claim)
