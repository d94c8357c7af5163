-- Invariants that survive merging, the rule by which they are accepted, and counterexamples.
use Rattle.std.specs.Prelude.{ℕ, zero, suc, ◌==◌, Bool, true, false, not, ◌&&◌, ◌||◌, List, [], ◌∷◌, ◌++◌, length, reverse, IsTrue, is_none}
use Rattle.std.specs.List.{list_all}
use Rattle.update_model.specs.Node.{NodeData}
use Rattle.schema.specs.declared.action.Action.{Action}
use Rattle.schema.specs.declared.action.Action.TheVariants as action
use Rattle.table_model.specs.declared.counterexample.Counterexample.{Counterexample}
use Rattle.table_model.specs.Nodes.{holds, IsClosed, Agree, union}
use Rattle.table_model.specs.Visible.{Rules, cascade_targets, kept_of, table_of}
use Rattle.table_model.specs.Invariants.{Claim, Declared, Unique, UniqueKept, AtMost, Refers, Check, Match, claim_holds, shown_in, satisfies}

-- Whenever two closed lists that agree satisfy the earlier invariants and this one, their union satisfies this one.
abbrev pub IsConfluent : Rules → List Claim → Claim → Type 0
IsConfluent rules earlier claim =
    (xs ys : List NodeData) → IsClosed xs → IsClosed ys → Agree xs ys
    → IsTrue (satisfies rules xs (earlier ++ claim ∷ [])) → IsTrue (satisfies rules ys (earlier ++ claim ∷ []))
    → IsTrue (claim_holds rules (shown_in rules (union xs ys)) claim)

-- A table is permanent where it is not DELETABLE, keeps no least row, and each other table that it refers to by CASCADE is
-- permanent. Here references are followed this deep.
unfoldable pub permanent_to : Rules → ℕ → ℕ → Bool
permanent_to rules zero table = false
permanent_to rules (suc depth) table =
    not (table_of rules table).deletable && is_none (kept_of rules table)
    && list_all (λ target. (target == table) || permanent_to rules depth target) (cascade_targets (table_of rules table).columns)

-- whether a table is permanent. No chain of tables is longer than they are many
abbrev pub is_permanent : Rules → ℕ → Bool
is_permanent rules table = permanent_to rules (length rules.tables) table

-- whether a reference with this action to this table is accepted
abbrev pub accepts_reference : Rules → ℕ → Action → Bool
accepts_reference rules target action.Restrict = is_permanent rules target
accepts_reference rules target action.Cascade = true
accepts_reference rules target action.SetNull = true

-- The rule: CHECK, MATCH, CASCADE, SETNULL and UNIQUE with KEEP LEAST are accepted, RESTRICT where the target table is permanent,
-- and UNIQUE without KEEP LEAST and ATMOST never.
abbrev pub accepts : Rules → Claim → Bool
accepts rules (Unique table column) = false
accepts rules (UniqueKept table column) = true
accepts rules (AtMost table count) = false
accepts rules (Refers table column target act) = accepts_reference rules target act
accepts rules (Check table tree) = true
accepts rules (Match table rule) = true

-- whether all of these are accepted
abbrev pub are_accepted : Rules → List Declared → Bool
are_accepted rules declared = list_all (λ d. accepts rules d.claim) declared

-- whether a list is closed, newest first
abbrev pub is_closed : List NodeData → Bool
is_closed [] = true
is_closed (node ∷ older) = not (holds older node.id) && list_all (holds older) node.preds && is_closed older

-- Whether two sides of a history, each newest first upon a common base, are closed and satisfy the earlier invariants and
-- this one, and both together break this one.
abbrev pub breaks : Rules → List Claim → Claim → (base left right : List NodeData) → Bool
breaks rules earlier claim base left right =
    is_closed (left ++ base) && is_closed (right ++ base) && is_closed (right ++ (left ++ base))
    && satisfies rules (left ++ base) (earlier ++ claim ∷ []) && satisfies rules (right ++ base) (earlier ++ claim ∷ [])
    && not (claim_holds rules (shown_in rules (right ++ (left ++ base))) claim)

-- the same of a counterexample, whose lists are in the order of arrival
abbrev pub confirms : Rules → List Claim → Claim → Counterexample → Bool
confirms rules earlier claim example = breaks rules earlier claim (reverse example.base) (reverse example.left) (reverse example.right)
