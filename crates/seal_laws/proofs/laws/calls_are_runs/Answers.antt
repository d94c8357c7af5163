use Rattle.seal_laws.proofs.CallLaws.{closed, created, created_none, opened, opened_none, refused, signed}
use Rattle.seal_laws.proofs.laws.calls_are_runs.Goals as goal

pub returns-clause-creates : goal.returns-clause-creates
returns-clause-creates c secret before after dir hss others away creates = created secret before after dir hss others away creates

pub returns-clause-creates_none : goal.returns-clause-creates_none
returns-clause-creates_none c payload filling before after dir others away lets = created_none payload filling before after dir others away lets

pub returns-clause-opens : goal.returns-clause-opens
returns-clause-opens c before after dir hss others away opens = opened before after dir hss others away opens

pub returns-clause-opens_none : goal.returns-clause-opens_none
returns-clause-opens_none c before after others reads = opened_none before after others reads

pub returns-clause-signs : goal.returns-clause-signs
returns-clause-signs c random left before after old new msg seal others away sound readable signing = signed random left before after old new msg seal others away sound readable signing

pub returns-clause-signs_none : goal.returns-clause-signs_none
returns-clause-signs_none c random left before after old new msg why others away sound readable refuses = refused random left before after old new msg why others away sound readable refuses

pub returns-clause-closes : goal.returns-clause-closes
returns-clause-closes c before after hss others away sound readable puts = closed before after hss others away sound readable puts
