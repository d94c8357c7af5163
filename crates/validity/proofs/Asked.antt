-- What is asked is what the definition says of a verdict.
use Rattle.std.proofs.Common.{◌≡◌, ℕ, ◌+◌, ◌==◌, Bool, true, false, not, ◌&&◌, ◌||◌, nat_le, List, [], ◌∷◌, ◌++◌, length, refl, sym, ◌∙◌, ap, Option, Some, None, if◌then◌else◌}
use Rattle.std.specs.List.{list_any, list_all}
use Rattle.std.proofs.lemmas.List.Folds.{list_any-append}
use Rattle.update_model.specs.declared.author_key.AuthorKey.{AuthorKey}
use Rattle.update_model.specs.declared.op.Op.{Op}
use Rattle.update_model.specs.declared.op.Op.TheVariants.{Insert, Delete}
use Rattle.update_model.specs.declared.row_entry.RowEntry.{RowEntry}
use Rattle.update_model.specs.declared.row_name.RowName.{RowName}
use Rattle.update_model.specs.declared.value.Value.{Value}
use Rattle.update_model.specs.declared.value.Value.TheVariants as value
use Rattle.update_model.specs.Node.{NodeData}
use Rattle.row_check.specs.Meaning.{value_at}
use Rattle.schema.specs.declared.rules.MatchRule.{MatchRule}
use Rattle.table_model.specs.declared.verdict.Verdict.{Verdict}
use Rattle.table_model.specs.declared.verdict.Verdict.TheVariants as verdict
use Rattle.table_model.specs.Visible.{Effects, RowRef, Rules, TableRow, refs, same_row, table_of, visible_rows}
use Rattle.table_model.specs.Verdicts.{are_new, delete_reason, first_reason, insert_reason, joined, left_of, limits_hold, matches_among, nothing, row_inserted, same_author, stands_among, verdict_after}
use Rattle.schema.specs.Checks.{checks_hold}
use Rattle.schema.specs.Columns.{all_fit}
use Rattle.validity.specs.declared.own_row.OwnRow.{OwnRow}
use Rattle.table_model.specs.Answers.{AreAnswers}
use Rattle.validity.specs.Asked.{delete_asked, end_asked, freed_by, insert_asked, is_anothers, is_deletable, is_freed, is_in, is_match, is_matched, match_asked, own_row, row_of, stands_asked, verdict_asked}
use Rattle.validity.proofs.Named.{Once, entry_any}
use Rattle.validity.proofs.Reasons.{not_twice}
use Rattle.validity.proofs.Taken.{AreApart, AreLeft, SameFreed, SameNew, left_free, more_freed, more_new, no_new}

-- the update's own rows are these, in whatever order
pub record SameRows (own : List OwnRow) (rows : List TableRow) : Type 0 where
  pub any : (p : TableRow → Bool) → list_any (λ o. p (row_of o)) own ≡ list_any p rows

-- the names are these, in whatever order
pub record SameNames (names others : List RowName) : Type 0 where
  pub any : (p : RowName → Bool) → list_any p names ≡ list_any p others

or_none : (a b : Bool) → (a || (b || false)) ≡ (b || a)
or_none true true = refl
or_none true false = refl
or_none false true = refl
or_none false false = refl

and_assoc : (a b c : Bool) → (a && (b && c)) ≡ ((a && b) && c)
and_assoc true b c = refl
and_assoc false b c = refl

more_rows : (own : List OwnRow) (rows : List TableRow) (o : OwnRow) → SameRows own rows → SameRows (own ++ o ∷ []) (row_of o ∷ rows)
more_rows own rows o s = record {
  any = λ p. list_any-append (λ x. p (row_of x)) own (o ∷ []) ∙ or_none (list_any (λ x. p (row_of x)) own) (p (row_of o)) ∙ ap (λ b. p (row_of o) || b) (s.any p);
}

more_names : (names others : List RowName) (name : RowName) → SameNames names others → SameNames (names ++ name ∷ []) (name ∷ others)
more_names names others name s = record {
  any = λ p. list_any-append p names (name ∷ []) ∙ or_none (list_any p names) (p name) ∙ ap (λ b. p name || b) (s.any p);
}

module _ (rules : Rules) (past : Effects) (row : RowName → Option RowEntry) (child : RowName → Bool) (equal : ℕ → ℕ → Value → ℕ) (number : ℕ → ℕ) (answers : AreAnswers rules past row child equal number) where
  once : Once (visible_rows rules past)
  once = record { once = answers.once }

  -- what is said of the visible rows with a name is said of the one that is answered
  answer_any : (name : RowName) (p : TableRow → Bool) (q : Option RowEntry → Bool) → q None ≡ false
      → ((x : TableRow) → q (Some (record { table = x.table; author = x.author; values = x.values })) ≡ p x)
      → q (row name) ≡ list_any (λ x. same_row x.name name && p x) (visible_rows rules past)
  answer_any name p q none some = ap q (answers.row name) ∙ entry_any (visible_rows rules past) name p q once none some

  -- what is said of the update's own rows and of the visible ones
  both_any : (own : List OwnRow) (rows : List TableRow) → SameRows own rows → (name : RowName) (p : TableRow → Bool) (q : Option RowEntry → Bool) → q None ≡ false
      → ((x : TableRow) → q (Some (record { table = x.table; author = x.author; values = x.values })) ≡ p x)
      → (list_any (λ o. same_row o.name name && p (row_of o)) own || q (row name)) ≡ list_any (λ x. same_row x.name name && p x) (rows ++ visible_rows rules past)
  both_any own rows s name p q none some =
      (λ i. s.any (λ x. same_row x.name name && p x) i || answer_any name p q none some i)
      ∙ sym (list_any-append (λ x. same_row x.name name && p x) rows (visible_rows rules past))

  same_stands : (own : List OwnRow) (rows : List TableRow) → SameRows own rows → (r : RowRef) → stands_asked own row r.name r.target ≡ stands_among (rows ++ visible_rows rules past) r
  same_stands own rows s r = both_any own rows s r.name (λ x. x.table == r.target) (is_in r.target) refl (λ x. refl)

  same_match : (own : List OwnRow) (rows : List TableRow) → SameRows own rows → (values : List Value) (rule : MatchRule) (v : Value)
      → match_asked own row values rule v ≡ matches_among (rows ++ visible_rows rules past) values rule v
  same_match own rows s values rule (value.Row name) = both_any own rows s name (λ x. is_match values rule x.values) (is_matched values rule) refl (λ x. refl)
  same_match own rows s values rule value.Null = refl
  same_match own rows s values rule (value.Int n) = refl
  same_match own rows s values rule (value.Text bytes) = refl
  same_match own rows s values rule (value.Flag flag) = refl
  same_match own rows s values rule (value.Own index) = refl

  same_insert : (own : List OwnRow) (rows : List TableRow) → SameRows own rows → (o : OwnRow)
      → insert_asked rules own row o.entry ≡ insert_reason rules (rows ++ visible_rows rules past) (row_of o)
  same_insert own rows s o = λ i.
      first_reason (
      (1, nat_le (length rules.tables) o.entry.table)
      ∷ (2, not (all_fit (table_of rules o.entry.table).columns o.entry.values))
      ∷ (3, not (checks_hold rules.ask o.entry.values (table_of rules o.entry.table).checks))
      ∷ (4, not (list_all (λ r. same_stands own rows s r i) (refs rules (row_of o))))
      ∷ (5, not (list_all (λ m. same_match own rows s o.entry.values m (value_at o.entry.values m.reference) i) (table_of rules o.entry.table).matches))
      ∷ [])

  same_deletable : (name : RowName) → is_deletable rules (row name) ≡ list_any (λ x. same_row x.name name && (table_of rules x.table).deletable) (visible_rows rules past)
  same_deletable name = answer_any name (λ x. (table_of rules x.table).deletable) (is_deletable rules) refl (λ x. refl)

  same_anothers : (author : AuthorKey) (name : RowName) → is_anothers rules author (row name)
      ≡ list_any (λ x. same_row x.name name && (table_of rules x.table).owned && not (same_author x.author author)) (visible_rows rules past)
  same_anothers author name =
      answer_any name (λ x. (table_of rules x.table).owned && not (same_author x.author author)) (is_anothers rules author) refl (λ x. refl)
      ∙ (λ i. list_any (λ x. and_assoc (same_row x.name name) (table_of rules x.table).owned (not (same_author x.author author)) i) (visible_rows rules past))

  same_delete : (names others : List RowName) → SameNames names others → (author : AuthorKey) (name : RowName)
      → delete_asked rules row child names author name ≡ delete_reason rules (visible_rows rules past) others author name
  same_delete names others s author name = λ i.
      first_reason (
      (6, not (same_deletable name i) || s.any (same_row name) i)
      ∷ (7, same_anothers author name i)
      ∷ (8, answers.child name i)
      ∷ [])

  left_are : (names others : List RowName) → SameFreed rules.tables row names others → AreApart others → AreLeft rules equal (freed_by rules.tables row names) (left_of (visible_rows rules past) others)
  left_are names others s apart = record {
    is = λ table column value kept.
        ap (λ n. nat_le (equal table column value) n) (s.freed (is_freed table value))
        ∙ left_free rules row equal (visible_rows rules past) answers.row answers.single answers.equal table column value kept others apart;
  }

  same_end : ((did : Effects) → limits_hold (visible_rows rules (joined did past)) 0 rules.tables ≡ true)
      → (number : ℕ) (own : List OwnRow) (names : List RowName) (did : Effects) → SameNew rules equal own did.inserted → SameFreed rules.tables row names did.deleted → AreApart did.deleted
      → end_asked rules row equal number own names
      ≡ (if limits_hold (visible_rows rules (joined did past)) 0 rules.tables && are_new rules (left_of (visible_rows rules past) did.deleted) did.inserted then verdict.Valid else verdict.Void 9 number)
  same_end limits number own names did n f apart =
      ap (λ b. if b then verdict.Valid else verdict.Void 9 number) (n.new (freed_by rules.tables row names) (left_of (visible_rows rules past) did.deleted) (left_are names did.deleted f apart))
      ∙ ap (λ b. if b && are_new rules (left_of (visible_rows rules past) did.deleted) did.inserted then verdict.Valid else verdict.Void 9 number) (sym (limits did))

  same_verdict : ((did : Effects) → limits_hold (visible_rows rules (joined did past)) 0 rules.tables ≡ true)
      → (node : NodeData) (number : ℕ) (own : List OwnRow) (names : List RowName) (did : Effects) → SameRows own did.inserted → SameNew rules equal own did.inserted
      → SameNames names did.deleted → SameFreed rules.tables row names did.deleted → AreApart did.deleted → (ops : List Op)
      → verdict_asked rules row child equal node number own names ops ≡ verdict_after rules past (visible_rows rules past) node number did ops
  unfolding verdict_asked
  same_verdict limits node number own names did s n t f apart [] = same_end limits number own names did n f apart
  same_verdict limits node number own names did s n t f apart (Insert table values ∷ ops) = λ i.
      elim (same_insert own did.inserted s (own_row node number table values) i) [
        | Some reason ↦ verdict.Void reason number
        | None ↦ same_verdict limits node (number + 1) (own ++ own_row node number table values ∷ []) names (record did { inserted = row_inserted node number table values ∷ did.inserted })
            (more_rows own did.inserted (own_row node number table values) s) (more_new rules equal own did.inserted (own_row node number table values) s.any n) t f apart ops i
      ]
  same_verdict limits node number own names did s n t f apart (Delete name ∷ ops) =
      let next : Effects = record did { deleted = name ∷ did.deleted } in
      let asked : Option ℕ → Verdict = elim [ Some reason ↦ verdict.Void reason number | None ↦ verdict_asked rules row child equal node (number + 1) own (names ++ name ∷ []) ops ] in
      let defined : Option ℕ → Verdict = elim [ Some reason ↦ verdict.Void reason number | None ↦ verdict_after rules past (visible_rows rules past) node (number + 1) next ops ] in
      let step : (reason : Option ℕ) → delete_asked rules row child names node.author name ≡ reason → asked reason ≡ defined reason =
      elim [
        | Some reason ↦ λ e. refl
        | None ↦ λ e.
            same_verdict limits node (number + 1) own (names ++ name ∷ []) next s n (more_names names did.deleted name t) (more_freed rules.tables row names did.deleted name f)
            (sym (t.any (same_row name)) ∙ not_twice (is_deletable rules (row name)) (list_any (same_row name) names) (is_anothers rules node.author (row name)) (child name) e, apart) ops
      ] in
      step (delete_asked rules row child names node.author name) refl ∙ ap defined (same_delete names did.deleted t node.author name)

  pub verdict_is_asked : ((did : Effects) → limits_hold (visible_rows rules (joined did past)) 0 rules.tables ≡ true) → (node : NodeData)
      → verdict_asked rules row child equal node 0 [] [] node.ops ≡ verdict_after rules past (visible_rows rules past) node 0 nothing node.ops
  verdict_is_asked limits node =
      same_verdict limits node 0 [] [] nothing (record { any = λ p. refl }) (no_new rules equal) (record { any = λ p. refl }) (record { freed = λ p. refl }) tt node.ops
