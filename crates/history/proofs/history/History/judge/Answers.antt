use Rattle.history.proofs.history.History.judge.Goals as goal

pub judge_draft-requires-clause-unlimited : goal.judge_draft-requires-clause-unlimited
judge_draft-requires-clause-unlimited g c κs within = c.self.invariant.is.unlimited
