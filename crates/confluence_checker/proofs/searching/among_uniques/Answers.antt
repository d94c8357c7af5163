use Rattle.std.proofs.Common.{◌<◌, ◌∙◌, length, get_or, ap, arith}
use Rattle.std.proofs.lemmas.List.{get_or_default}
use Rattle.schema.specs.declared.rules.UniqueRule.{UniqueRule}
use Rattle.table_model.specs.declared.invariant.InvariantKind.{InvariantKind}
use Rattle.table_model.specs.Invariants.{each_from, unique_declared}
use Rattle.confluence_checker.specs.Forms.{found_among, is_same, seen}
use Rattle.confluence_checker.proofs.Goings.{found_next, found_unique}
use Rattle.confluence_checker.proofs.searching.among_uniques.Goals as goal

pub loop-place-preserved : goal.loop-place-preserved
loop-place-preserved c = λ r.
    let uniques = c.args.uniques.now in
    let kept = c.args.kept in
    let number = c.args.number in
    let which = c.args.which.now in
    let place = c.loop-place.place in
    let found = c.loop-place.found in
    let first : UniqueRule = record { column = 0; line = 0 } in
    let rule = get_or uniques place first in
    let low : place < length uniques = omega arith in
    let wanted = c.is_at-wanted.ensures ∙ ap (λ (k : InvariantKind). is_same (record { kind = k; table = number; place = place; line = rule.line }) which) c.unique_kind-kind.ensures in
    found_next r c.args.rows.now which (unique_declared kept number) uniques place rule found c.seen-found.result
    (found_among r c.args.rows.now which (each_from (unique_declared kept number) 0 uniques) c.args.before) low
    (get_or_default uniques place first rule low)
    (c.seen-found.ensures ∙ (λ i. seen found (wanted i) (c.unique_holds.ensures i)) ∙ found_unique r c.args.rows.now which kept number place rule found)
    (c.loop-place.invariant r)
