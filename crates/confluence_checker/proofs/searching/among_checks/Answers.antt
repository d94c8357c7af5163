use Rattle.std.proofs.Common.{◌<◌, length, arith}
use Rattle.table_model.specs.Invariants.{each_from, check_declared}
use Rattle.confluence_checker.specs.Forms.{found_among}
use Rattle.table_model.specs.Visible.{rules_with}
use Rattle.confluence_checker.proofs.Goings.{found_next}
use Rattle.confluence_checker.proofs.searching.among_checks.Goals as goal

pub loop-place-preserved : goal.loop-place-preserved
loop-place-preserved g c =
    let r = rules_with g.L.Relation.answer c.args.search.now.checker.schema.now.tables in
    let checks = c.as_slice-checks.result.now in
    let low : c.loop-place.place < length checks = omega arith in
    found_next r c.args.search.now.rows.now c.args.search.now.which.now (check_declared c.args.number) checks c.loop-place.place c.index-checks-place.result c.loop-place.found c.in_ok-found.found
    (found_among r c.args.search.now.rows.now c.args.search.now.which.now (each_from (check_declared c.args.number) 0 checks) c.args.before) low c.index-checks-place.is c.in_ok-found.ensures c.loop-place.invariant
