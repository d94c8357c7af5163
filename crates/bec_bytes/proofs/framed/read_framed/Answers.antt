use Rattle.std.proofs.Common.{◌≡◌, ℕ, List, ◌≤◌, sym, subst, length, arith}
use Rattle.std.proofs.lemmas.Result.{err_from_is_err_and}
use Rattle.bec_bytes.specs.Framed.{HoldsPiece}
use Rattle.bec_bytes.specs.Moved.{IfTold}
use Rattle.bec_bytes.proofs.ReadFrames.{prefix_taken, left_in_piece, piece_held, rewritten}
use Rattle.bec_bytes.proofs.framed.read_framed.Goals as goal

pub returns-in_err-came-clause-left : goal.returns-in_err-came-clause-left
returns-in_err-came-clause-left g c =
    let failed = err_from_is_err_and c.from_residual-in_err-came.result c.from_residual-in_err-came.ensures.1 in
    let first = prefix_taken _ _ c.length_of-length.result c.in_ok-count.count c.read_full.new.buf c.length_of-length.ensures c.if-count-lt4.false c.in_ok-count.ensures.bytes.0 in
    let read = c.in_err-came.ensures.bytes in
    let size : length c.read_full-2.new.buf ≡ c.length_of-length.result = omega (arith, c.read_full-2.auto.buf, c.deref_mut.ensures.len, c.in_ok-piece.ensures.len) in
    rw (failed.1, failed.2) (left_in_piece c.args.limit _ _ _ c.length_of-length.result read.0 c.read_full-2.new.buf (omega (arith, c.length_of-length.type_inv)) c.if-length-limit.false first size read.2)

pub returns-clause-found : goal.returns-clause-found
returns-clause-found g c =
    let first = prefix_taken _ _ c.length_of-length.result c.in_ok-count.count c.read_full.new.buf c.length_of-length.ensures c.if-count-lt4.false c.in_ok-count.ensures.bytes.0 in
    let kept = c.read_full-2.auto.buf in
    let lent = c.deref_mut.ensures.len in
    let size : length c.read_full-2.new.buf ≡ c.length_of-length.result = omega (arith, kept, lent, c.in_ok-piece.ensures.len) in
    let whole : length c.read_full-2.new.buf ≡ c.in_ok-piece.piece.len = omega (arith, kept, lent) in
    let all : c.length_of-length.result ≤ c.in_ok-came.came = omega (arith, size, whole, c.len.ensures, c.if-came-len.false) in
    let P : List ℕ → Type 0 = λ w. IfTold (g.S.Source.left c.args.source.now) (g.S.Source.left c.read_full-2.new.source) (λ bytes rest. HoldsPiece c.args.limit bytes w rest) in
    subst P (sym (rewritten c.in_ok-piece.piece.len c.read_full-2.new.buf c.in_ok-piece.piece.items whole))
    (piece_held c.args.limit _ _ _ c.length_of-length.result c.in_ok-came.came c.read_full-2.new.buf c.if-length-limit.false first size all c.in_ok-came.ensures.bytes.0)
