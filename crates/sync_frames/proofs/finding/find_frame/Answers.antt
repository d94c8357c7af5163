use Rattle.std.proofs.Common.{◌≡◌, ◌∙◌, ◌+◌, ◌-◌, take, drop, sym, ap, get_or, arith}
use Rattle.sync_frames.specs.Reading.{frame_in}
use Rattle.sync_frames.proofs.AtFront.{whole_found, none_found}
use Rattle.sync_frames.proofs.Pieces.{no_form}
use Rattle.sync_frames.proofs.finding.find_frame.Goals as goal

pub returns-in-Ok : goal.returns-in-Ok
returns-in-Ok c =
    let long = c.if-bytes-end.false in
    let len = c.length_at-len.result in
    let payload : 5 + len - 5 ≡ len = omega arith in (
      long,
      omega arith,
      whole_found c.args.bytes.now c.in-Ok.frame len (λ i. omega (arith, c.type_inv.bytes i)) c.length_at-len.ensures long (sym c.head_is_fine.ensures ∙ c.if-not-head_is_fine.false)
          (ap (λ n. frame_in (get_or c.args.bytes.now 0 0) (take n (drop 5 c.args.bytes.now))) (sym payload) ∙ c.in-Ok.ensures),
    )

pub returns-in-Err-NoForm : goal.returns-in-Err-NoForm
returns-in-Err-NoForm c =
    let len = c.length_at-len.result in
    let payload : 5 + len - 5 ≡ len = omega arith in
    none_found c.args.bytes.now len c.length_at-len.ensures c.if-bytes-end.false
    (ap (λ n. frame_in (get_or c.args.bytes.now 0 0) (take n (drop 5 c.args.bytes.now))) (sym payload) ∙ no_form c.in-Err-NoForm.field-0 (frame_in (get_or c.args.bytes.now 0 0) (take (5 + len - 5) (drop 5 c.args.bytes.now))) c.in-Err-NoForm.field-0-is c.in-Err-NoForm.ensures)
