use Rattle.std.proofs.Common.{refl}
use Rattle.demonstration.proofs.Meetings.{reaches_own}
use Rattle.demonstration.proofs.running.meet_all.Goals as goal

pub returns-clause-course : goal.returns-clause-course
returns-clause-course c = λ keys count since met course.
    c.meet-3.ensures.reaches keys count since count refl
    (c.in_ok-meet-2.ensures.reaches keys count since count refl (c.in_ok-meet.ensures.reaches keys count since met refl (reaches_own keys count since met 0 c.args.authors.now course)))
