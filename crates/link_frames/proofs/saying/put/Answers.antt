use Rattle.std.proofs.Common.{take, drop, take-append-drop}
use Rattle.link_frames.proofs.Sentences.{front_one}
use Rattle.link_frames.proofs.saying.put.Goals as goal

-- src/saying.rt:88
pub returns-in-Err-clause-said : goal.returns-in-Err-clause-said
returns-in-Err-clause-said g c frame spells =
    let some = c.in-Err.ensures.bytes in
    (take some.0 c.args.bytes.now, some.2, front_one frame c.args.bytes.now (take some.0 c.args.bytes.now) spells (drop some.0 c.args.bytes.now, take-append-drop some.0 c.args.bytes.now))
