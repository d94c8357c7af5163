use Rattle.table_model.specs.Invariants.{each_from, table_declared}
use Rattle.confluence_checker.specs.Forms.{found_among, start}
use Rattle.table_model.specs.Visible.{rules_with}
use Rattle.schema.proofs.Soundness.{checks_sound}
use Rattle.confluence_checker.proofs.Goings.{found_at}
use Rattle.confluence_checker.proofs.searching.found.Goals as goal

pub in_table-requires-clause-sound : goal.in_table-requires-clause-sound
in_table-requires-clause-sound g c κs within = checks_sound c.args.schema.now.tables c.tables-number-end.ensures.kept.tables c.loop-number.number c.table-table.result.now c.table-table.ensures

pub loop-number-preserved : goal.loop-number-preserved
loop-number-preserved g c =
    let r = rules_with g.L.Relation.answer c.args.schema.now.tables in
    let tables = c.args.schema.now.tables in
    found_at r c.args.rows.now c.args.which.now table_declared tables c.loop-number.number c.table-table.result.now c.loop-number.found c.in_ok-found.found
    (found_among r c.args.rows.now c.args.which.now (each_from table_declared 0 tables) start) c.table-table.ensures c.in_ok-found.ensures c.loop-number.invariant
