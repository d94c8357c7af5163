use Rattle.head_set.proofs.States.{heads_rise, present_is, states_long}
use Rattle.head_set.proofs.heads.Heads.len.Goals as goal

pub returns-clause-value : goal.returns-clause-value
returns-clause-value c = rw (← c.self.view_is, present_is c.self.inside.spans.entries c.self.inside.added) c.self.invariant.counted

pub returns-clause-few : goal.returns-clause-few
returns-clause-few c = rw (← c.self.view_is, states_long c.self.inside.spans.entries c.self.inside.added) c.self.invariant.few

pub returns-clause-rising : goal.returns-clause-rising
returns-clause-rising c = rw (← c.self.view_is, present_is c.self.inside.spans.entries c.self.inside.added) (heads_rise c.self.inside.spans.entries c.self.inside.added c.self.invariant.rising)
