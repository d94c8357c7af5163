-- What the counts of a demonstration are.
use Rattle.std.proofs.Common.{◌≡◌, ℕ, false, ◌+◌, ◌-◌, ◌*◌, ◌%◌, ◌^◌, ◌<◌, ◌≤◌, List, [], ◌∷◌, Contains, length, map, slice_index_or, refl, sym, ap, subst, ◌∙◌, arith, length-append}
use Rattle.std.proofs.lemmas.List.{length-map}
use Rattle.std.proofs.lemmas.List.Elements.{All-contains}
use Rattle.std.proofs.lemmas.List.Sorted.{length_permutation}
use Rattle.demonstration.specs.declared.author.Author.{Author}
use Rattle.demonstration.specs.declared.counts.DemoCounts.{DemoCounts}
use Rattle.demonstration.specs.Demos.{AreAsPlanned, AreCountsOf, IsDemo, all_left, keys_of}
use Rattle.demonstration.specs.Sites.{AreMakers, IsCourse, IsSite, members_at, steps}
use Rattle.demonstration.proofs.Steps.{apart_ids, field_at, members_in}
use Rattle.demonstration.proofs.Valid.{no_voids, nodes_closed}
use Rattle.demonstration_course.specs.Courses.{AreApart, AreApartSince, AreInStep, EndsIn, HasAll, all_four, turns_of}
use Rattle.demonstration_course.proofs.Courses.{all_turns, among_all, as_tables_see, four_chains, held_distinct, length_all, members_permuted}
use Rattle.demonstration_course.proofs.Heads.{four_heads}
use Rattle.demonstration_course.proofs.Permuting.{closed_distinct, no_longer}
use Rattle.demonstration_laws.specs.Chains.{ArePlanned, AreValid, all_lists_left, lists_left}
use Rattle.demonstration_laws.specs.Tables.{demo_tables}
use Rattle.history.specs.Histories.{nodes_of}
use Rattle.row_check.specs.Checksum.{is_luhn}
use Rattle.schema.specs.Data.{SchemaData}
use Rattle.schema.specs.declared.table_def.TableDef.{TableDef}
use Rattle.session_rules.specs.Laws.{NoCollision}
use Rattle.table_model.specs.Nodes.{IsClosed}
use Rattle.table_model.specs.Tables.{AreRowsIn, void_lines}
use Rattle.table_model.specs.Verdicts.{judged}
use Rattle.table_model.specs.Visible.{Rules, rules_with}
use Rattle.table_model.specs.declared.shown_row.ShownRow.{ShownRow}
use Rattle.table_model.proofs.Alike.{same_length}
use Rattle.table_model.proofs.Permuted.{Alike-permuted}
use Rattle.update_check.specs.Signed.{node_of}
use Rattle.update_codec.specs.Parts.{entry_of, id_of}
use Rattle.update_model.specs.declared.update_id.UpdateId.{UpdateId}
use Rattle.update_model.specs.Graph.{AreHeads, names}
use Rattle.update_model.specs.Node.{NodeData}

-- ---- a law that the caller calls

-- how many rows of a table are visible where all was made by plan
abbrev pub RowsLaw : ℕ → ℕ → Type 0
RowsLaw table times = (nodes : List NodeData) (chains : List (List NodeData)) (rows : List ShownRow) → ArePlanned chains nodes → IsClosed nodes → AreValid (rules_with is_luhn demo_tables) nodes
    → AreRowsIn (rules_with is_luhn demo_tables) nodes table rows → length rows ≡ times * all_lists_left chains

-- ---- one who has all

pub first_low : 0 < 4
first_low = omega arith

end_low : (all some : List (List ℕ)) → EndsIn all some → length some ≤ length all
end_low all some end = let whole = ap length end.1 in let parts = length-append end.0 some in omega arith

-- four numbers that are at most four others, and as much together
four_same : (a b c d p q r s : ℕ) → a ≤ p → b ≤ q → c ≤ r → d ≤ s → p + (q + (r + s)) ≤ a + (b + (c + d)) → (a ≡ p) × (b ≡ q) × (c ≡ r) × (d ≡ s)
four_same a b c d p q r s one two three four whole = (omega arith, omega arith, omega arith, omega arith)

one_sum : (a b c d : ℕ) → a + (b + (c + (d + 0))) ≡ a + b + c + d
one_sum a b c d = omega arith

-- the step in which an author made its last update
abbrev last_turn : ℕ → ℕ → ℕ
last_turn count b = 4 * (turns_of count b - 1) + b

turn_is : (count b : ℕ) → b < 4 → 4 ≤ count → last_turn count b % 4 ≡ b
turn_is count b low enough = omega arith

turn_late : (count b : ℕ) → b < 4 → 4 ≤ count → count - 4 ≤ last_turn count b
turn_late count b low enough = omega arith

turn_low : (count b : ℕ) → b < 4 → 4 ≤ count → last_turn count b < count
turn_low count b low enough = omega arith

module _ (made : List (List ℕ)) (count : ℕ) (chains members : ℕ → List (List ℕ)) (apart : AreApart made) (small : count < 2 ^ 32) (step : AreInStep made count chains members) (all : HasAll chains (members 0) 4) where
  abbrev held : ℕ → List (List ℕ)
  held = (step.holds 0 first_low).held

  held_low : (b : ℕ) → b < 4 → length (held b) ≤ turns_of count b
  held_low b low = subst (λ n. length (held b) ≤ n) (step.long b low) (end_low (chains b) (held b) ((step.holds 0 first_low).oldest b low))

  chains_long : length (all_four chains) ≡ count
  chains_long = length_all chains
      ∙ (λ i. step.long 0 (omega arith) i + (step.long 1 (omega arith) i + (step.long 2 (omega arith) i + step.long 3 (omega arith) i)))
      ∙ all_turns count

  all_within : count ≤ length (members 0)
  all_within = subst (λ n. n ≤ length (members 0)) chains_long
      (no_longer (all_four chains) (members 0) (held_distinct made count chains members apart small step chains (λ b low. ([], refl)))
      (λ m c. let among = among_all chains m c in all among.0 among.1 m among.2))

  held_long : length (members 0) ≡ length (held 0) + (length (held 1) + (length (held 2) + length (held 3)))
  held_long = sym (length_permutation (members 0) (all_four held) (members_permuted made count chains members apart small step 0 first_low)) ∙ length_all held

  turns_held : (length (held 0) ≡ turns_of count 0) × (length (held 1) ≡ turns_of count 1) × (length (held 2) ≡ turns_of count 2) × (length (held 3) ≡ turns_of count 3)
  turns_held = four_same (length (held 0)) (length (held 1)) (length (held 2)) (length (held 3)) (turns_of count 0) (turns_of count 1) (turns_of count 2) (turns_of count 3)
      (held_low 0 (omega arith)) (held_low 1 (omega arith)) (held_low 2 (omega arith)) (held_low 3 (omega arith))
      (subst (λ n. n ≤ length (held 0) + (length (held 1) + (length (held 2) + length (held 3)))) (sym (all_turns count)) (subst (λ n. count ≤ n) held_long all_within))

  -- how many updates it holds
  pub all_held : length (members 0) ≡ count
  all_held = held_long ∙ (λ i. turns_held.0 i + (turns_held.1 i + (turns_held.2 i + turns_held.3 i))) ∙ all_turns count

  left_of : (b : ℕ) → length (held b) ≡ turns_of count b → lists_left (length (map node_of (held b))) ≡ lists_left (turns_of count b)
  left_of b long = ap (λ n. lists_left n) (length-map (held b) node_of ∙ long)

  -- how many lists are left
  pub left_held : all_lists_left (four_chains held) ≡ all_left count
  left_held =
      (λ i. left_of 0 turns_held.0 i + (left_of 1 turns_held.1 i + (left_of 2 turns_held.2 i + (left_of 3 turns_held.3 i + 0))))
      ∙ one_sum (lists_left (turns_of count 0)) (lists_left (turns_of count 1)) (lists_left (turns_of count 2)) (lists_left (turns_of count 3))

  -- how many heads it has
  pub four_tops : (met : ℕ) → AreApartSince (count - 4) met count chains members → (heads : List UpdateId) → AreHeads (map entry_of (members 0)) heads → 4 ≤ count → length heads ≡ 4
  four_tops met since heads are enough = four_heads made count chains members step apart small 0 (omega arith) heads are enough all unnamed
    where
      unnamed : (b : ℕ) → b < 4 → (m : List ℕ) (older : List (List ℕ)) → chains b ≡ m ∷ older → names (map entry_of (members 0)) (id_of m) ≡ false
      unnamed b low m older is =
          let k = last_turn count b in
          let turn = turn_is count b low enough in
          since.unnamed k (turn_late count b low enough) (turn_low count b low enough) m older (ap chains turn ∙ is) 0 (omega arith)

-- ---- the counts

module _ (number count : ℕ) (authors : List Author) (d : Author) (four : length authors ≡ 4) (course : IsCourse (keys_of number) (steps count (count - 4) count 4) authors) (counts : DemoCounts)
    (counted : AreCountsOf is_luhn (slice_index_or authors 0 d).store.history counts) (lists_law : RowsLaw 0 1) (tasks_law : RowsLaw 1 2) where
  abbrev author : Author
  author = slice_index_or authors 0 d

  abbrev members : List (List ℕ)
  members = author.store.history.members

  site : IsSite (keys_of number) course.schema course.made author
  site = course.sites 0 d (omega (arith, four))

  abbrev rules : Rules
  rules = rules_with is_luhn author.store.history.schema.tables

  abbrev IsApart : Type 0
  IsApart = NoCollision (map entry_of course.made) (map entry_of course.made)

  valid : IsApart → AreValid rules (nodes_of members)
  valid apart = subst (λ (s : SchemaData). AreValid (rules_with is_luhn s.tables) (nodes_of members)) (sym site.schema_is) (site.valid apart)

  no_void : IsApart → counts.voids ≡ 0
  no_void apart = counted.voids_are ∙ same_length (Alike-permuted counted.voids (void_lines (judged rules (nodes_of members))) counted.are_voids.exact)
      ∙ ap (λ (l : List _). length l) (no_voids rules (nodes_of members) (valid apart))

  module _ (enough : 4 ≤ count) (small : count ≤ 4000) (apart : IsApart) where
    abbrev makers : AreMakers course.made (steps count (count - 4) count 4) authors
    makers = course.makers small apart

    at_first : members_at authors 0 ≡ members
    at_first = field_at members_in [] authors 0 d (omega (arith, four))

    tables_are : author.store.history.schema.tables ≡ demo_tables
    tables_are = ap (λ (s : SchemaData). s.tables) site.schema_is ∙ course.tables

    apart_made : AreApart course.made
    apart_made = apart_ids course.made apart

    abbrev four_held : List (List NodeData)
    four_held = four_chains (makers.in_step.holds 0 first_low).held

    rows : (table times : ℕ) → RowsLaw table times → (shown : List ShownRow) → AreRowsIn rules (nodes_of members) table shown → length shown ≡ times * all_left count
    rows table times law shown are =
        law (nodes_of members) four_held shown
        (subst (λ (l : List (List ℕ)). ArePlanned four_held (nodes_of l)) at_first (as_tables_see course.made count makers.chains (members_at authors) apart_made (omega (arith, small)) makers.in_step 0 first_low))
        (nodes_closed members counted.closed.members.closed)
        (subst (λ (t : List TableDef). AreValid (rules_with is_luhn t) (nodes_of members)) tables_are (valid apart))
        (subst (λ (t : List TableDef). AreRowsIn (rules_with is_luhn t) (nodes_of members) table shown) tables_are are)
        ∙ ap (λ n. times * n) (left_held course.made count makers.chains (members_at authors) apart_made (omega (arith, small)) makers.in_step makers.reached)

    as_planned : AreAsPlanned count counts
    as_planned = record {
      updates = counted.updates_are ∙ sym (ap (λ (l : List (List ℕ)). length l) at_first)
          ∙ all_held course.made count makers.chains (members_at authors) apart_made (omega (arith, small)) makers.in_step makers.reached;
      heads = counted.heads_are ∙ four_tops course.made count makers.chains (members_at authors) apart_made (omega (arith, small)) makers.in_step makers.reached count makers.since counted.heads
          (subst (λ (l : List (List ℕ)). AreHeads (map entry_of l) counted.heads) (sym at_first) counted.are_heads) enough;
      lists = (let is = counted.lists_are in let all = rows 0 1 lists_law counted.lists counted.are_lists in omega (arith, is, all));
      tasks = counted.tasks_are ∙ rows 1 2 tasks_law counted.tasks counted.are_tasks;
      voids = no_void apart;
    }

  pub told : IsDemo number count counts
  told = record {
    history = author.store.history;
    counted = counted;
    made = course.made;
    few = course.few;
    by_keys = course.by_keys;
    of = site.of;
    no_more = (let fewer = no_longer members course.made (closed_distinct members counted.closed.members.closed) (λ m c. All-contains (Contains course.made) members m site.of c) in let is = counted.updates_are in omega arith);
    none_void = no_void;
    planned = as_planned;
  }
