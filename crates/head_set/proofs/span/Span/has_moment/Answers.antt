use Rattle.head_set.proofs.Spanned.{ltb_turned}
use Rattle.head_set.proofs.span.Span.has_moment.Goals as goal

pub returns-in-Some : goal.returns-in-Some
returns-in-Some c = rw c.in-Some.is (ltb_turned c.args.self.now.since c.in-Some.until)
