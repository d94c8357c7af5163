use Rattle.std.proofs.Common.{sym, ◌∙◌}
use Rattle.update_codec.proofs.Again.{whole_again}
use Rattle.update_codec.proofs.Steps.{ok_is}
use Rattle.update_codec.proofs.laws.one_update.Goals as goal

pub returns : goal.returns
returns c = λ bytes update other s t. ok_is update other (sym (whole_again bytes update s) ∙ whole_again bytes other t)
