use Rattle.std.proofs.Common.{◌+◌, ◌-◌, ◌∙◌, ap, refl, arith, drop, length-drop, length-take}
use Rattle.update_log.specs.Reading.{ReaderState, count_left, left_of}
use Rattle.update_log.proofs.Pieces.{length_ready, read_more}
use Rattle.update_log.proofs.piece_reader.PieceReader.read_ahead.Goals as goal

pub returns-clause-left : goal.returns-clause-left
returns-clause-left g c tells =
    let r = c.self.inside in
    let seen = (g.D.Disk.state c.args.disk.now).seen in
    let room = c.deref_mut.result.now in
    let ready = r.to - r.from in
    let more = c.min-more.result in
    read_more r.piece.items c.copy_within.new.self.items room c.read.new.buf seen r.from ready more (ready + more - ready) 0 (ready + more) r.at c.copy_within.new.self.len
    (omega arith) c.deref_mut.ensures.len c.copy_within.ensures.items c.deref_mut.ensures.value (omega (arith, c.deref_mut.ensures.len)) (omega arith) refl refl c.read.auto.buf (c.in_ok-read.ensures.bytes tells)
    ∙ ap (λ (k : ReaderState). left_of k seen) c.self.view_is

pub returns-clause-ready : goal.returns-clause-ready
returns-clause-ready g c =
    let r = c.self.inside in
    let ready = r.to - r.from in
    let more = c.min-more.result in
    let size = length_ready c.copy_within.new.self.items c.deref_mut.result.now c.read.new.buf ready more (ready + more - ready) 0 (ready + more) c.copy_within.new.self.len
    c.deref_mut.ensures.len (omega (arith, c.deref_mut.ensures.len)) (omega arith) refl refl c.read.auto.buf in
    let ahead = length-take ready (drop r.from r.piece.items) in
    let behind = length-drop r.from r.piece.items in
    let left = ap count_left c.self.view_is in
    omega (arith, size, ahead, behind, left, c.requires.there, c.requires.room)

pub returns-clause-count : goal.returns-clause-count
returns-clause-count g c =
    let r = c.self.inside in
    let ready = r.to - r.from in
    let more = c.min-more.result in
    let size = length_ready c.copy_within.new.self.items c.deref_mut.result.now c.read.new.buf ready more (ready + more - ready) 0 (ready + more) c.copy_within.new.self.len
    c.deref_mut.ensures.len (omega (arith, c.deref_mut.ensures.len)) (omega arith) refl refl c.read.auto.buf in
    let ahead = length-take ready (drop r.from r.piece.items) in
    let behind = length-drop r.from r.piece.items in
    let left = ap count_left c.self.view_is in
    omega (arith, size, ahead, behind, left)
