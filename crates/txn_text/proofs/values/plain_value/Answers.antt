use Rattle.txn_text.proofs.values.plain_value.Goals as goal

pub returns-clause-form : goal.returns-clause-form
returns-clause-form c = c.unmarked_value.ensures.form c.args.before
