use Rattle.std.proofs.Common.{◌-◌, arith}
use Rattle.demonstration.specs.Demos.{keys_of}
use Rattle.demonstration.proofs.Counting.{told}
use Rattle.demonstration.proofs.Meetings.{reaches_none}
use Rattle.demonstration.proofs.Sites.{if_ok}
use Rattle.demonstration.proofs.running.ended.Goals as goal

pub returns-clause-made : goal.returns-clause-made
returns-clause-made c = λ number count course.
    let keys = keys_of number in
    let since = count - 4 in
    let once = reaches_none keys count since count 4 c.meet_all.new.authors (c.in_ok-meet_all.ensures.course keys count since since course) in
    let last = c.in_ok-meet_all-2.ensures.course keys count since count once in
    if_ok c.counts_of.result c.counts_of.ensures
    (λ counts counted. told number count c.meet_all-2.new.authors _ c.in_ok-meet_all-2.ensures.four last counts counted (λ nodes chains rows planned closed valid are. (let all = c.planned_rows.ensures.lists nodes chains rows planned closed valid are in omega (arith, all))) c.planned_rows.ensures.tasks)
