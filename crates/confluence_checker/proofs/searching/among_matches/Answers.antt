use Rattle.std.proofs.Common.{◌<◌, length, get_or, arith}
use Rattle.std.proofs.lemmas.List.{get_or_default}
use Rattle.row_check.specs.declared.cmp.Cmp.TheVariants as cmp
use Rattle.schema.specs.declared.rules.MatchRule.{MatchRule}
use Rattle.table_model.specs.Invariants.{each_from, match_declared}
use Rattle.confluence_checker.specs.Forms.{found_among}
use Rattle.confluence_checker.proofs.Goings.{found_next}
use Rattle.confluence_checker.proofs.searching.among_matches.Goals as goal

pub loop-place-preserved : goal.loop-place-preserved
loop-place-preserved c = λ r.
    let matches = c.args.matches.now in
    let first : MatchRule = record { column = 0; cmp = cmp.Eq; reference = 0; target_column = 0; line = 0 } in
    let low : c.loop-place.place < length matches = omega arith in
    found_next r c.args.rows.now c.args.which.now (match_declared c.args.number) matches c.loop-place.place (get_or matches c.loop-place.place first) c.loop-place.found c.at_match-found.result
    (found_among r c.args.rows.now c.args.which.now (each_from (match_declared c.args.number) 0 matches) c.args.before) low
    (get_or_default matches c.loop-place.place first (get_or matches c.loop-place.place first) low) (c.at_match-found.ensures r) (c.loop-place.invariant r)
