use Rattle.std.proofs.Common.{◌≡◌, ◌<◌, ◌≤◌, ◌∙◌, sym, subst, arith, List, ◌∷◌, length}
use Rattle.schema.specs.declared.column.Column.{Column}
use Rattle.confluence_laws.specs.Examples.{Item, need, needed_but, for_each}
use Rattle.table_model.specs.Visible.{table_of, bare_rules}
use Rattle.confluence_test.specs.Plans.{AreOnce}
use Rattle.confluence_test.proofs.Needing.{need_none, need_kept, need_new, need_end}
use Rattle.confluence_test.proofs.Once.{once_few, once_all}
use Rattle.confluence_test.proofs.needs.+needs.Goals as goal
use Rattle.confluence_test.proofs.needs.+needs.Goals.{need-then-depth-eq0-via-then-depth-eq0, need-then-depth-eq0-via-else-depth-eq0+then-has_table}

pub need-returns-then-depth-eq0-clause-needed : goal.need-returns-then-depth-eq0-clause-needed
need-returns-then-depth-eq0-clause-needed t c =
    elim c.then-depth-eq0.branch [
      | need-then-depth-eq0-via-then-depth-eq0 w ↦ need_none (bare_rules c.args.schema.now.tables) c.args.depth c.args.chain.now c.args.table w.if-depth-eq0.true
      | need-then-depth-eq0-via-else-depth-eq0+then-has_table w ↦
          need_kept (bare_rules c.args.schema.now.tables) c.args.depth c.args.chain.now c.args.table (sym w.has_table.ensures ∙ w.if-has_table.true)
    ]

pub need-returns-clause-needed : goal.need-returns-clause-needed
need-returns-clause-needed t c =
    let some : 0 < c.args.depth = omega arith in
    c.in_ok-push.ensures
    ∙ need_new (bare_rules c.args.schema.now.tables) c.args.depth c.args.chain.now c.need_all_but.new.chain c.in_ok-row.row c.args.table some (sym c.has_table.ensures ∙ c.if-has_table.false)
    c.in_ok-need_all_but.ensures.needed c.in_ok-row.ensures

pub need-returns-clause-once : goal.need-returns-clause-once
need-returns-clause-once t c =
    let count = length c.args.schema.now.tables in
    let grown = c.need_all_but.new.chain in
    let earlier = c.in_ok-need_all_but.ensures.earlier c.args.table (omega arith) in
    subst (AreOnce count) (sym c.in_ok-push.ensures)
    (subst (λ (x : Item). AreOnce count (x ∷ grown)) (sym c.in_ok-row.ensures)
    (c.requires.table, earlier ∙ sym c.has_table.ensures ∙ c.if-has_table.false, c.in_ok-need_all_but.ensures.once))

pub need_all_but-returns-clause-few : goal.need_all_but-returns-clause-few
need_all_but-returns-clause-few t c =
    let few = once_few (length c.args.schema.now.tables) c.loop-number.chain c.loop-number.invariant.once in omega arith

pub need_all_but-returns-clause-earlier : goal.need_all_but-returns-clause-earlier
need_all_but-returns-clause-earlier t c =
    let rules = bare_rules c.args.schema.now.tables in
    let end : length c.as_slice-columns.result.now ≤ c.loop-number.number = omega arith in
    let same : c.as_slice-columns.result.now ≡ (table_of rules c.args.table).columns = cc in
    let told = need_end (need rules c.args.depth) c.args.skip c.as_slice-columns.result.now c.loop-number.number c.loop-number.chain _ end c.loop-number.invariant.needed in
    (once_all c.args.schema.now.tables c.table_of.ensures.sound c.args.depth c.args.chain.now c.args.table c.args.skip c.requires.table c.requires.once c.loop-number.chain
    (subst (λ (l : List Column). c.loop-number.chain ≡ for_each (need rules c.args.depth) (needed_but c.args.skip 0 l) c.args.chain.now) same told)).above
