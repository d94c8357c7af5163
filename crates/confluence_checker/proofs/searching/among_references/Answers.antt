use Rattle.std.proofs.Common.{◌<◌, length, arith}
use Rattle.table_model.specs.Invariants.{each_from, reference_declared}
use Rattle.confluence_checker.specs.Forms.{found_among}
use Rattle.confluence_checker.proofs.Goings.{found_next}
use Rattle.confluence_checker.proofs.searching.among_references.Goals as goal

pub loop-place-preserved : goal.loop-place-preserved
loop-place-preserved c = λ r.
    let columns = c.args.columns.now in
    let low : c.loop-place.place < length columns = omega arith in
    found_next r c.args.rows.now c.args.which.now (reference_declared c.args.number) columns c.loop-place.place c.index-columns-place.result c.loop-place.found c.at_column-found.result
    (found_among r c.args.rows.now c.args.which.now (each_from (reference_declared c.args.number) 0 columns) c.args.before) low c.index-columns-place.is (c.at_column-found.ensures r) (c.loop-place.invariant r)
