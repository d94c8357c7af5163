-- Sets with equal heads, their tables, and what holds in them.
use Rattle.std.proofs.Common.{◌≡◌, inl, inr, ℕ, Bool, true, false, List, [], ◌∷◌, map, refl, sym, ap, subst, ◌∙◌, Contains, IsTrue, Option, Some, None, arith, cond}
use Rattle.std.proofs.lemmas.Bool.{and_parts}
use Rattle.history.specs.Histories.{nodes_of}
use Rattle.head_set.proofs.SameSets.{same_members}
use Rattle.schema.specs.Sound.{AreTables}
use Rattle.schema.proofs.Soundness.{sound_tables}
use Rattle.session_rules.specs.Laws.{NoCollision}
use Rattle.confluence_laws.specs.Confluence.{accepts, are_accepted}
use Rattle.table_model.specs.Invariants.{Declared, invariants_of}
use Rattle.table_model.specs.Nodes.{AreNodesOf, IsClosed, IsSameSet, holds, node_of as node_with}
use Rattle.table_model.specs.Visible.{Rules}
use Rattle.confluence_laws.proofs.Accepted.{accepted_stands}
use Rattle.table_model.proofs.Arrivals.{closed_reversed}
use Rattle.confluence_laws.proofs.DeclaredClaims.{declared_says}
use Rattle.table_model.proofs.Members.{contains_cases, contains_mapped, mapped_contains, contains_turned, turned_contains, find_finds, any_of_contained}
use Rattle.confluence_laws.proofs.SameTables.{same_listed}
use Rattle.update_check.specs.Members.{AreMembers}
use Rattle.update_check.specs.Signed.{node_of}
use Rattle.update_codec.specs.Parts.{entry_of}
use Rattle.update_model.specs.declared.update_id.UpdateId.{UpdateId}
use Rattle.update_model.specs.Entry.{Entry, same_id}
use Rattle.update_model.specs.Graph.{AreHeads, Follows, HaveSameMembers}
use Rattle.update_model.specs.Node.{NodeData}
use Rattle.update_model.specs.Rule.{RuleData}
use Rattle.update_model.proofs.Ids.{id_from_same}
use Rattle.world_rules.specs.Laws.{HaveOneSet, HoldsInvariants}

nodes_are : (members : List (List ℕ)) → AreNodesOf (map entry_of members) (map node_of members)
nodes_are [] = tt
nodes_are (m ∷ ms) = (refl, refl, nodes_are ms)

pub nodes_closed : (members : List (List ℕ)) → Follows [] (map entry_of members) → IsClosed (nodes_of members)
nodes_closed members closed = closed_reversed [] [] tt (map entry_of members) (map node_of members) (nodes_are members) tt closed

-- of a closed list the node with an id is the one that has it
node_found : (nodes : List NodeData) (id : UpdateId) (n : NodeData) → IsClosed nodes → Contains nodes n → same_id id n.id ≡ true → node_with nodes id ≡ Some n
node_found [] id n closed c same = let low = c.1 in absurd (omega arith)
node_found (m ∷ older) id n closed c same = elim (contains_cases m n older c) [
  | inl here ↦ let first : same_id id m.id ≡ true = ap (λ (k : NodeData). same_id id k.id) here ∙ same in (λ i. cond (first i) (Some m) (node_with older id)) ∙ ap Some here
  | inr later ↦
      let step : (b : Bool) → same_id id m.id ≡ b → cond b (Some m) (node_with older id) ≡ Some n = elim [
        | true ↦ λ is.
            let called : id ≡ m.id = id_from_same id m.id is in
            let held : holds older m.id ≡ true = any_of_contained (λ (k : NodeData). same_id m.id k.id) older n later (ap (λ (i : UpdateId). same_id i n.id) (sym called) ∙ same) in
            let new : holds older m.id ≡ false = closed.0.new in
            absurd cc
        | false ↦ λ is. node_found older id n closed.1 later same
      ] in
      step (same_id id m.id) refl
]

of_member : (members : List (List ℕ)) (n : NodeData) → Contains (nodes_of members) n → (m : List ℕ) × Contains members m × (node_of m ≡ n)
of_member members n c = mapped_contains node_of n members (turned_contains n (map node_of members) c)

held_too : (members others : List (List ℕ)) (m : List ℕ) → HaveSameMembers (map entry_of members) (map entry_of others) → Contains members m → Contains others m
held_too members others m same c =
    let here = contains_mapped entry_of m members c in
    let there = mapped_contains entry_of (entry_of m) others ((same (entry_of m)).0 here) in
    subst (Contains others) (ap (λ (e : Entry). e.bytes) there.2) there.1

found_in : (members others : List (List ℕ)) (id : UpdateId) (n : NodeData) → Follows [] (map entry_of others) → HaveSameMembers (map entry_of members) (map entry_of others)
    → node_with (nodes_of members) id ≡ Some n → node_with (nodes_of others) id ≡ Some n
found_in members others id n closed same found =
    let at = find_finds (λ (k : NodeData). same_id id k.id) (nodes_of members) n found in
    let m = of_member members n at.0 in
    let c = contains_turned (node_of m.0) (map node_of others) (contains_mapped node_of m.0 others (held_too members others m.0 same m.1)) in
    node_found (nodes_of others) id n (nodes_closed others closed) (subst (Contains (nodes_of others)) m.2 c) at.1

turned_round : (members others : List (List ℕ)) → HaveSameMembers (map entry_of members) (map entry_of others) → HaveSameMembers (map entry_of others) (map entry_of members)
turned_round members others same e = ((same e).1, (same e).0)

same_nodes : (members others : List (List ℕ)) → Follows [] (map entry_of members) → Follows [] (map entry_of others)
    → HaveSameMembers (map entry_of members) (map entry_of others) → IsSameSet (nodes_of members) (nodes_of others)
same_nodes members others here there same id = by (node_with (nodes_of members) id) (node_with (nodes_of others) id) refl refl
  where
    by : (a b : Option NodeData) → node_with (nodes_of members) id ≡ a → node_with (nodes_of others) id ≡ b → node_with (nodes_of members) id ≡ node_with (nodes_of others) id
    by (Some n) b e f = e ∙ sym (found_in members others id n there same e)
    by None (Some n) e f = found_in others members id n here (turned_round members others same) f ∙ sym f
    by None None e f = e ∙ sym f

pub one_set : (rule : RuleData) (rules : Rules) (members others : List (List ℕ)) (heads : List UpdateId) → AreMembers rule members → AreMembers rule others
    → NoCollision (map entry_of members) (map entry_of others) → AreHeads (map entry_of members) heads → AreHeads (map entry_of others) heads → HaveOneSet rules members others
one_set rule rules members others heads here there apart a b =
    let same = same_members (map entry_of members) (map entry_of others) heads here.closed there.closed apart a b in
    record {
      set = same;
      tables = λ tables shown voids lines one two.
          same_listed rules (nodes_of members) (nodes_of others) (nodes_closed members here.closed) (nodes_closed others there.closed) (same_nodes members others here.closed there.closed same) tables shown voids lines one two;
    }

-- ---- invariants

accepted_each : (rules : Rules) (declared : List Declared) (d : Declared) → are_accepted rules declared ≡ true → Contains declared d → accepts rules d.claim ≡ true
accepted_each rules [] d all c = let low = c.1 in absurd (omega arith)
accepted_each rules (e ∷ es) d all c =
    let parts = and_parts (accepts rules e.claim) (are_accepted rules es) all in
    elim (contains_cases e d es c) [
      | inl here ↦ ap (λ (x : Declared). accepts rules x.claim) (sym here) ∙ parts.0
      | inr later ↦ accepted_each rules es d parts.1 later
    ]

pub invariants_hold : (rule : RuleData) (rules : Rules) (members : List (List ℕ)) → AreTables [] rules.tables → IsTrue (are_accepted rules (invariants_of rules)) → AreMembers rule members → HoldsInvariants rules members
invariants_hold rule rules members tables accepted here declared among =
    accepted_stands rules (sound_tables rules.tables tables) (nodes_of members) (nodes_closed members here.closed) declared.claim (declared_says rules declared among)
    (accepted_each rules (invariants_of rules) declared accepted among)
