use Rattle.lm_ots.proofs.OneTimeLaws.{own_form, own_value}
use Rattle.lm_ots.proofs.laws.own_signature.Goals as goal

pub returns-clause-form : goal.returns-clause-form
returns-clause-form c = own_form

pub returns-clause-value : goal.returns-clause-value
returns-clause-value c = own_value
