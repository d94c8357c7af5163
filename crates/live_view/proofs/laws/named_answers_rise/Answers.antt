use Rattle.live_view.proofs.Rising.{named_rise}
use Rattle.live_view.proofs.laws.named_answers_rise.Goals as goal

pub returns : goal.returns
returns c = named_rise
