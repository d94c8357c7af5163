use Rattle.sync_session.proofs.Carried.{arrives_elsewhere, arrives_fine, arrives_unlisted, is_fine}
use Rattle.sync_session.proofs.carrying.arriving.Goals as goal

pub returns-then-is_under-clause-arrives : goal.returns-then-is_under-clause-arrives
returns-then-is_under-clause-arrives c =
    arrives_fine c.args.rule.now c.args.update.now c.author.ensures.signed c.in_ok-copy.field-0 c.in_ok-copy.ensures (c.is_under.ensures.0 c.if-is_under.true)

pub returns-then-is_under-clause-under : goal.returns-then-is_under-clause-under
returns-then-is_under-clause-under c =
    is_fine c.args.rule.now c.args.update.now c.author.ensures.signed c.in_ok-copy.field-0 c.in_ok-copy.ensures (c.is_under.ensures.0 c.if-is_under.true)

pub returns-then-is_of_database-clause-arrives : goal.returns-then-is_of_database-clause-arrives
returns-then-is_of_database-clause-arrives c =
    arrives_unlisted c.args.rule.now c.args.update.now c.author.ensures.signed (c.is_of_database.ensures.0 c.if-is_of_database.true)
    (λ under. let yes_under = c.is_under.ensures.1 under in let not_under = c.if-is_under.false in cc)

pub returns-else-is_of_database-clause-arrives : goal.returns-else-is_of_database-clause-arrives
returns-else-is_of_database-clause-arrives c =
    arrives_elsewhere c.args.rule.now c.args.update.now c.author.ensures.signed
    (λ same. let there = c.is_of_database.ensures.1 same in let not_there = c.if-is_of_database.false in cc)
