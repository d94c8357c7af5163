-- The tables of members: they are one, every invariant holds in them, and the heads determine them.
use Rattle.std.proofs.Common.{◌≡◌, inl, inr, ℕ, Bool, true, false, List, [], ◌∷◌, map, reverse, refl, sym, ap, subst, ◌∙◌, Contains, IsTrue, Option, Some, None, arith, cond}
use Rattle.std.specs.List.{list_all}
use Rattle.std.proofs.lemmas.Bool.{and_parts}
use Rattle.update_model.specs.declared.update_id.UpdateId.{UpdateId}
use Rattle.update_model.specs.Entry.{Entry, same_id}
use Rattle.update_model.proofs.Ids.{id_from_same}
use Rattle.update_model.specs.Graph.{AreHeads, Follows, HaveSameMembers}
use Rattle.update_model.specs.Node.{NodeData}
use Rattle.update_codec.specs.Parts.{entry_of}
use Rattle.update_check.specs.Signed.{node_of}
use Rattle.head_set.specs.Grown.{NoCollision}
use Rattle.table_model.specs.declared.shown_row.ShownRow.{ShownRow}
use Rattle.table_model.specs.declared.void_line.VoidLine.{VoidLine}
use Rattle.confluence_laws.specs.Confluence.{accepts, are_accepted}
use Rattle.table_model.specs.Invariants.{Declared, claim_holds, invariants_of, shown_in}
use Rattle.table_model.specs.Nodes.{AreNodesOf, IsClosed, IsSameSet, holds, node_of as node_with}
use Rattle.schema.specs.Data.{SchemaData}
use Rattle.schema.specs.Sound.{AreTables}
use Rattle.table_model.specs.Tables.{AreTablesOf}
use Rattle.schema.specs.Columns.{all_fit}
use Rattle.table_model.specs.Visible.{Rules, table_of}
use Rattle.update_check.specs.Members.{AreMembers}
use Rattle.node_commands.specs.Bundle.{AreOfHeads, HasTables}
use Rattle.outcomes.specs.Rules.{nodes_of, rules_of}
use Rattle.node_commands.proofs.Orders.{tables_there}
use Rattle.table_model.proofs.Members.{contains_cases, contains_mapped, mapped_contains, contains_turned, turned_contains, find_finds, any_of_contained}

-- what is known of tables
pub record TableLaws : Type 0 where
  pub arrivals : (graph : List Entry) (nodes : List NodeData) → AreNodesOf graph nodes → Follows [] graph → IsClosed (reverse nodes)
  pub same_tables : (rules : Rules) (xs ys : List NodeData) (tables others : List (List ShownRow)) (voids lines : List VoidLine)
      → IsClosed xs → IsClosed ys → IsSameSet xs ys → AreTablesOf rules xs tables voids → AreTablesOf rules ys others lines → (tables ≡ others) × (voids ≡ lines)

-- the nodes of members are those of their graph
nodes_are : (members : List (List ℕ)) → AreNodesOf (map entry_of members) (map node_of members)
nodes_are [] = tt
nodes_are (m ∷ ms) = (refl, refl, nodes_are ms)

pub nodes_closed : TableLaws → (members : List (List ℕ)) → Follows [] (map entry_of members) → IsClosed (nodes_of members)
nodes_closed laws members closed = laws.arrivals (map entry_of members) (map node_of members) (nodes_are members) closed

-- members have one list of tables
pub tables_once : TableLaws → (schema : SchemaData) (members : List (List ℕ)) (tables others : List (List ShownRow)) (voids lines : List VoidLine) → Follows [] (map entry_of members)
    → AreTablesOf (rules_of schema) (nodes_of members) tables voids → AreTablesOf (rules_of schema) (nodes_of members) others lines → (tables ≡ others) × (voids ≡ lines)
tables_once laws schema members tables others voids lines closed a b =
    let here = nodes_closed laws members closed in
    laws.same_tables (rules_of schema) (nodes_of members) (nodes_of members) tables others voids lines here here (λ id. refl) a b

-- ---- equal sets of members are equal sets of nodes

-- of a closed list the node with an id is the one that has it
node_found : (nodes : List NodeData) (id : UpdateId) (n : NodeData) → IsClosed nodes → Contains nodes n → same_id id n.id ≡ true → node_with nodes id ≡ Some n
node_found [] id n closed c same = let low = c.1 in absurd (omega arith)
node_found (m ∷ older) id n closed c same = elim (contains_cases m n older c) [
  | inl here ↦ let first : same_id id m.id ≡ true = ap (λ (k : NodeData). same_id id k.id) here ∙ same in (λ i. cond (first i) (Some m) (node_with older id)) ∙ ap Some here
  | inr later ↦
      let step : (b : Bool) → same_id id m.id ≡ b → cond b (Some m) (node_with older id) ≡ Some n = elim [
        | true ↦ λ is.
            let named : id ≡ m.id = id_from_same id m.id is in
            let held : holds older m.id ≡ true = any_of_contained (λ (k : NodeData). same_id m.id k.id) older n later (ap (λ (i : UpdateId). same_id i n.id) (sym named) ∙ same) in
            let new : holds older m.id ≡ false = closed.0.new in
            absurd cc
        | false ↦ λ is. node_found older id n closed.1 later same
      ] in
      step (same_id id m.id) refl
]

-- a node of members is that of one of them
of_member : (members : List (List ℕ)) (n : NodeData) → Contains (nodes_of members) n → (m : List ℕ) × Contains members m × (node_of m ≡ n)
of_member members n c = mapped_contains node_of n members (turned_contains n (map node_of members) c)

-- and a member of both
held_by : (members others : List (List ℕ)) (m : List ℕ) → HaveSameMembers (map entry_of members) (map entry_of others) → Contains members m → Contains others m
held_by members others m same c =
    let here = contains_mapped entry_of m members c in
    let there = mapped_contains entry_of (entry_of m) others ((same (entry_of m)).0 here) in
    subst (Contains others) (ap (λ (e : Entry). e.bytes) there.2) there.1

module _ (laws : TableLaws) where
  found_in : (members others : List (List ℕ)) (id : UpdateId) (n : NodeData) → Follows [] (map entry_of others) → HaveSameMembers (map entry_of members) (map entry_of others)
      → node_with (nodes_of members) id ≡ Some n → node_with (nodes_of others) id ≡ Some n
  found_in members others id n closed same found =
      let at = find_finds (λ (k : NodeData). same_id id k.id) (nodes_of members) n found in
      let m = of_member members n at.0 in
      let c = contains_turned (node_of m.0) (map node_of others) (contains_mapped node_of m.0 others (held_by members others m.0 same m.1)) in
      node_found (nodes_of others) id n (nodes_closed laws others closed) (subst (Contains (nodes_of others)) m.2 c) at.1

  turned_round : (members others : List (List ℕ)) → HaveSameMembers (map entry_of members) (map entry_of others) → HaveSameMembers (map entry_of others) (map entry_of members)
  turned_round members others same e = ((same e).1, (same e).0)

  pub same_nodes : (members others : List (List ℕ)) → Follows [] (map entry_of members) → Follows [] (map entry_of others)
      → HaveSameMembers (map entry_of members) (map entry_of others) → IsSameSet (nodes_of members) (nodes_of others)
  same_nodes members others here there same id = by (node_with (nodes_of members) id) (node_with (nodes_of others) id) refl refl
    where
      by : (a b : Option NodeData) → node_with (nodes_of members) id ≡ a → node_with (nodes_of others) id ≡ b → node_with (nodes_of members) id ≡ node_with (nodes_of others) id
      by (Some n) b e f = e ∙ sym (found_in members others id n there same e)
      by None (Some n) e f = found_in others members id n here (turned_round members others same) f ∙ sym f
      by None None e f = e ∙ sym f

  -- whatever members have the same heads are the same set with the same tables
  pub of_heads : ((graph other : List Entry) (heads : List UpdateId) → Follows [] graph → Follows [] other → NoCollision graph other → AreHeads graph heads → AreHeads other heads → HaveSameMembers graph other)
      → (schema : SchemaData) (members : List (List ℕ)) (tables : List (List ShownRow)) (voids : List VoidLine) → AreMembers schema.rule members
      → AreTablesOf (rules_of schema) (nodes_of members) tables voids → AreOfHeads schema members tables voids
  of_heads equal_heads schema members tables voids taken are = λ others heads theirs apart a b.
      let same = equal_heads (map entry_of members) (map entry_of others) heads taken.closed theirs.closed apart a b in (
        same,
        tables_there (rules_of schema) (nodes_of members) (nodes_of others) (nodes_closed laws members taken.closed) (nodes_closed laws others theirs.closed)
            (same_nodes members others taken.closed theirs.closed same) tables voids are,
      )

-- an invariant of those that are all accepted is accepted
pub accepted_each : (rules : Rules) (declared : List Declared) (d : Declared) → are_accepted rules declared ≡ true → Contains declared d → accepts rules d.claim ≡ true
accepted_each rules [] d all c = let low = c.1 in absurd (omega arith)
accepted_each rules (e ∷ es) d all c =
    let parts = and_parts (accepts rules e.claim) (are_accepted rules es) all in
    elim (contains_cases e d es c) [
      | inl here ↦ ap (λ (x : Declared). accepts rules x.claim) (sym here) ∙ parts.0
      | inr later ↦ accepted_each rules es d parts.1 later
    ]

-- what is known of what is accepted, and of shown rows
pub record HoldLaws : Type 0 where
  pub accepted : (rules : Rules) (nodes : List NodeData) (declared : Declared) → AreTables [] rules.tables → IsClosed nodes
      → Contains (invariants_of rules) declared → IsTrue (accepts rules declared.claim) → IsTrue (claim_holds rules (shown_in rules nodes) declared.claim)
  pub fit : (rules : Rules) (nodes : List NodeData) → AreTables [] rules.tables → IsClosed nodes
      → IsTrue (list_all (λ row. all_fit (table_of rules row.table).columns row.values) (shown_in rules nodes))
  pub equal_heads : (graph other : List Entry) (heads : List UpdateId) → Follows [] graph → Follows [] other → NoCollision graph other → AreHeads graph heads → AreHeads other heads → HaveSameMembers graph other

pub has_tables : TableLaws → HoldLaws → (schema : SchemaData) (members : List (List ℕ)) (tables : List (List ShownRow)) (voids : List VoidLine) → AreTables [] schema.tables
    → IsTrue (are_accepted (rules_of schema) (invariants_of (rules_of schema))) → AreMembers schema.rule members → AreTablesOf (rules_of schema) (nodes_of members) tables voids
    → HasTables schema members tables voids
has_tables laws holds schema members tables voids sound accepted taken are =
    let closed = nodes_closed laws members taken.closed in
    record {
      taken = taken;
      are = are;
      hold = λ d c. holds.accepted (rules_of schema) (nodes_of members) d sound closed c (accepted_each (rules_of schema) (invariants_of (rules_of schema)) d accepted c);
      fit = holds.fit (rules_of schema) (nodes_of members) sound closed;
      determined = of_heads laws holds.equal_heads schema members tables voids taken are;
    }
