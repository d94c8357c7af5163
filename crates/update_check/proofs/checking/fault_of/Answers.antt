use Rattle.update_check.proofs.Whole.{bad_signature, under_rule, spelled_signed}
use Rattle.update_check.proofs.checking.fault_of.Goals as goal

pub returns-clause-signed : goal.returns-clause-signed
returns-clause-signed c = spelled_signed c.args.update.now c.author-author.ensures.spells (c.is_signed.ensures.0 c.if-not-is_signed.false)

pub returns-clause-under : goal.returns-clause-under
returns-clause-under c =
    under_rule c.args.rule.now c.args.update.now c.database.result.now c.author-author.result.now c.database.ensures c.author-author.ensures.value
    (c.is_of_database.ensures.0 c.if-not-is_of_database.false) (c.is_by_listed.ensures.0 c.if-not-is_by_listed.false)

pub returns-then-not-is_signed-clause-fault : goal.returns-then-not-is_signed-clause-fault
returns-then-not-is_signed-clause-fault c =
    bad_signature c.args.rule.now c.args.update.now c.author-author.ensures.spells
    (under_rule c.args.rule.now c.args.update.now c.database.result.now c.author-author.result.now c.database.ensures c.author-author.ensures.value
    (c.is_of_database.ensures.0 c.if-not-is_of_database.false) (c.is_by_listed.ensures.0 c.if-not-is_by_listed.false))
    (λ signed. let is_signed = c.is_signed.ensures.1 signed in let not_signed = c.if-not-is_signed.true in cc)
