use Rattle.demonstration.proofs.Meetings.{forgets}
use Rattle.demonstration.proofs.Sites.{on_ok}
use Rattle.demonstration.proofs.running.meet_by_chance.Goals as goal

pub returns-clause-course : goal.returns-clause-course
returns-clause-course c = λ keys count since met course.
    on_ok c.meet.result (c.meet.ensures.course keys count since met 0 course) (λ met_course. forgets keys count since count 0 c.meet.new.authors met_course)
