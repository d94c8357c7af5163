use Rattle.std.proofs.Common.{rules, ◌≡◌, true}
use Rattle.link_frames.specs.Listening.{is_none}
use Rattle.link_frames.proofs.Pieces.{listens_then}
use Rattle.link_frames.proofs.hearing.listen.Goals as goal

-- src/hearing.rt:27:1
pub returns-clause-listens : goal.returns-clause-listens
returns-clause-listens g c =
    let none : is_none c.feed-whole.result ≡ true = search rules in
    listens_then _ _ _ c.feed-whole.new.frames _ _ _ c.feed-whole.result _ none c.feed-whole.ensures c.read.ensures.reads
