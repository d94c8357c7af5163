use Rattle.key_index.proofs.LifeLaws.{history_runs, signed_once, signed_used, stays_signed}
use Rattle.key_index.proofs.laws.no_index_twice_ever.Goals as goal

pub returns-clause-once : goal.returns-clause-once
returns-clause-once c parts all last tells run = signed_once parts all last tells (history_runs _ _ _ run)

pub returns-clause-used : goal.returns-clause-used
returns-clause-used c parts all last index tells run has = signed_used parts all last index tells (history_runs _ _ _ run) has

pub returns-clause-stays : goal.returns-clause-stays
returns-clause-stays c life last all index tells there used run = stays_signed life last all index tells there used (history_runs _ _ _ run)
