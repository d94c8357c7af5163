use Rattle.std.proofs.Common.{◌≡◌, ◌⊎◌, inl, inr, ◌<◌, ◌+◌, length, sym, subst, arith, IsTrue, ap, ◌∙◌}
use Rattle.bec_disk.specs.Disk.{DiskState}
use Rattle.update_codec.specs.declared.limits.TheConstants.{UPDATE_LIMIT}
use Rattle.update_log.specs.Reading.{left_of, count_left}
use Rattle.update_log.proofs.Pieces.{too_few, too_long, whole}
use Rattle.update_log.proofs.piece_reader.PieceReader.next_record.Goals.{then-size-gt-UPDATE_LIMIT-via-then-size-gt-UPDATE_LIMIT, then-size-gt-UPDATE_LIMIT-via-else-size-gt-UPDATE_LIMIT+then-size-count_left}
use Rattle.update_log.proofs.piece_reader.PieceReader.next_record.Goals as goal

pub returns-then-count_left-lt4-clause-found : goal.returns-then-count_left-lt4-clause-found
returns-then-count_left-lt4-clause-found g c tells r rest h =
    too_few c.args.self.now (g.D.Disk.state c.args.disk.now).seen r rest (c.requires tells) (omega (arith, c.count_left.ensures, c.if-count_left-lt4.true)) h

pub returns-then-size-gt-UPDATE_LIMIT-clause-found :
    goal.returns-then-size-gt-UPDATE_LIMIT-clause-found
returns-then-size-gt-UPDATE_LIMIT-clause-found g c tells r rest h =
    let seen = (g.D.Disk.state c.args.disk.now).seen in
    let reader = c.read_ahead.new.self in
    let same = c.in_ok-read_ahead.ensures.same in
    let told = subst (λ (s : DiskState). IsTrue s.tells) (sym same) tells in
    let over = c.in_ok-read_ahead.ensures.over told ∙ ap (λ (s : DiskState). length s.seen) same in
    let size = c.next_size-size.result in
    let out : (UPDATE_LIMIT < size) ⊎ (count_left reader < 4 + size) = elim c.then-size-gt-UPDATE_LIMIT.branch [
      | then-size-gt-UPDATE_LIMIT-via-then-size-gt-UPDATE_LIMIT w ↦ inl w.if-size-gt-UPDATE_LIMIT.true
      | then-size-gt-UPDATE_LIMIT-via-else-size-gt-UPDATE_LIMIT+then-size-count_left w ↦ inr (omega (arith, w.if-size-count_left.true, w.count_left-else-size-gt-UPDATE_LIMIT.ensures))
    ] in
    too_long c.args.self.now reader seen r rest size c.next_size-size.ensures.fits over (c.in_ok-read_ahead.ensures.left tells) c.in_ok-read_ahead.ensures.ready c.next_size-size.ensures.value out h

pub returns-clause-found : goal.returns-clause-found
returns-clause-found g c tells =
    let seen = (g.D.Disk.state c.args.disk.now).seen in
    let same = c.in_ok-read_ahead.ensures.same in
    let told = subst (λ (s : DiskState). IsTrue s.tells) (sym same) tells in
    let first = c.read_ahead.new.self in
    let ready = c.read_ahead-2.new.self in
    let again = subst (λ (s : DiskState). left_of ready s.seen ≡ left_of first s.seen) same (c.in_ok-read_ahead-2.ensures.left told) in
    whole c.args.self.now first ready c.take.new.self seen c.in_ok-take.field-0.items c.next_size-size.result (omega (arith, c.if-size-gt-UPDATE_LIMIT.false))
    (c.in_ok-read_ahead.ensures.left tells) again c.in_ok-read_ahead.ensures.ready c.in_ok-read_ahead-2.ensures.ready c.next_size-size.ensures.value c.in_ok-take.ensures.bytes c.in_ok-take.ensures.ahead
