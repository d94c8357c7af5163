use Rattle.lms_tree.proofs.SignatureLaws.{made_signed}
use Rattle.lms_tree.proofs.laws.made_is_signed.Goals as goal

pub returns : goal.returns
returns c = made_signed
