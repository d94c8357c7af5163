use Rattle.live_view.proofs.Following.{comes}
use Rattle.live_view.proofs.laws.views_follow.Goals as goal

pub returns : goal.returns
returns g c rules first last calls view run = comes c.named_answers_rise.ensures g.W.Wish.wants rules first last calls view run
