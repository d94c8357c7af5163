use Rattle.std.proofs.Common.{◌<◌, arith, refl}
use Rattle.demonstration.specs.Sites.{IsSite}
use Rattle.demonstration.proofs.Meetings.{exchanged, front_meets, front_reaches}
use Rattle.demonstration.proofs.Sites.{in_back, in_front, on_three}
use Rattle.demonstration.proofs.meeting.meet.Goals as goal

pub returns-then-first-second-clause-course : goal.returns-then-first-second-clause-course
returns-then-first-second-clause-course c = λ keys count since met reach course.
    let P = IsSite keys course.schema course.made in
    let authors = c.args.authors.now in
    let parts = c.split_at_mut-front in
    let front = parts.result.0.now in
    let back = parts.result.1.now in
    let one = c.index-front-first.result in
    let other = c.index-back-0.result in
    let at_one = in_front P authors front back c.args.first one parts.ensures.value (omega (arith, parts.ensures.front_len)) course.sites in
    let at_other = in_back P authors front back 0 other parts.ensures.value (omega (arith, parts.ensures.back_len)) course.sites in
    on_three c.sync.result (c.sync.ensures.one keys course.schema course.made at_one at_other) (c.sync.ensures.other keys course.schema course.made at_one at_other) c.sync.ensures.meets
    (λ p q m. front_meets keys count since met reach c.args.first c.args.second authors front back one other c.sync.new.one c.sync.new.other parts.ensures.value parts.ensures.front_len c.requires.four c.if-first-second.true c.requires.second
    course m p q)

pub returns-then-first-second-clause-reaches : goal.returns-then-first-second-clause-reaches
returns-then-first-second-clause-reaches c = λ keys count since met first course.
    let P = IsSite keys course.schema course.made in
    let authors = c.args.authors.now in
    let parts = c.split_at_mut-front in
    let front = parts.result.0.now in
    let back = parts.result.1.now in
    let one = c.index-front-first.result in
    let other = c.index-back-0.result in
    let at_one = in_front P authors front back c.args.first one parts.ensures.value (omega (arith, parts.ensures.front_len)) course.sites in
    let at_other = in_back P authors front back 0 other parts.ensures.value (omega (arith, parts.ensures.back_len)) course.sites in
    on_three c.sync.result (c.sync.ensures.one keys course.schema course.made at_one at_other) (c.sync.ensures.other keys course.schema course.made at_one at_other) c.sync.ensures.meets
    (λ p q m. front_reaches keys count since met c.args.second c.args.first c.args.second authors front back one other c.sync.new.one c.sync.new.other parts.ensures.value parts.ensures.front_len c.requires.four c.if-first-second.true
    c.requires.second course m p q first refl)

pub returns-else-first-second-clause-course : goal.returns-else-first-second-clause-course
returns-else-first-second-clause-course c = λ keys count since met reach course.
    let P = IsSite keys course.schema course.made in
    let authors = c.args.authors.now in
    let parts = c.split_at_mut-front-else-first-second in
    let front = parts.result.0.now in
    let back = parts.result.1.now in
    let one = c.index-back-0-else-first-second.result in
    let other = c.index-front-second.result in
    let before : c.args.second < c.args.first = omega (arith, c.if-first-second.false, c.requires.differ) in
    let at_one = in_back P authors front back 0 one parts.ensures.value (omega (arith, parts.ensures.back_len)) course.sites in
    let at_other = in_front P authors front back c.args.second other parts.ensures.value (omega (arith, before, parts.ensures.front_len)) course.sites in
    on_three c.sync-else-first-second.result (c.sync-else-first-second.ensures.one keys course.schema course.made at_one at_other) (c.sync-else-first-second.ensures.other keys course.schema course.made at_one at_other)
    c.sync-else-first-second.ensures.meets
    (λ p q m. front_meets keys count since met reach c.args.second c.args.first authors front back other one c.sync-else-first-second.new.other c.sync-else-first-second.new.one parts.ensures.value parts.ensures.front_len c.requires.four before
    c.requires.first course (exchanged _ _ _ _ m) q p)
