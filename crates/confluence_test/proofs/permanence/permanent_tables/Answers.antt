use Rattle.std.proofs.Common.{◌≡◌, ◌+◌, ◌<◌, Bool, List, length, sym, subst, arith}
use Rattle.table_model.specs.Visible.{table_of, bare_rules}
use Rattle.confluence_test.specs.Plans.{is_permanent_by}
use Rattle.confluence_test.proofs.Permanents.{SaysUpTo, says_next}
use Rattle.confluence_test.proofs.permanence.permanent_tables.Goals as goal

pub loop-number-preserved : goal.loop-number-preserved
loop-number-preserved c =
    let tables = c.args.schema.now.tables in
    let number = c.loop-number.number in
    let items = c.loop-number.permanence.items in
    let known : number < length tables = omega arith in
    let is : c.is_permanent_by-permanent.result ≡ is_permanent_by items number (table_of (bare_rules tables) number) = cc in
    subst (λ (l : List Bool). SaysUpTo tables l (number + 1)) (sym c.in_ok-push.ensures.items)
    (says_next tables c.table_of.ensures.sound items number known c.loop-number.invariant c.is_permanent_by-permanent.result is)
