use Rattle.std.proofs.Common.{◌≡◌, ◌∷◌, ◌++◌, [], List, ℕ, length, ◌∙◌, ap}
use Rattle.std.proofs.Math.Nat.{le_refl, le_trans}
use Rattle.byteorder.specs.Endian.{big_bytes}
use Rattle.bec_disk.specs.Disk.{overwritten}
use Rattle.bec_disk.proofs.Causes.{cause_failed, cause_since, on_ok}
use Rattle.bec_disk.proofs.Gates.{closed, shut, reach, emptied, begun, filled, opened}
use Rattle.bec_disk.proofs.Moments.{then_same, told, told_before}
use Rattle.bec_disk.proofs.gated.write_gated.Goals as goal

pub returns-in_err-close_gate-clause-any_moment : goal.returns-in_err-close_gate-clause-any_moment
returns-in_err-close_gate-clause-any_moment g c settled =
    closed c.args.payload.now _ _ (c.close_gate.ensures.any_moment settled)

pub returns-in_err-cut_synced-clause-any_moment : goal.returns-in_err-cut_synced-clause-any_moment
returns-in_err-cut_synced-clause-any_moment g c settled =
    let first = shut c.args.payload.now _ _ (c.close_gate.ensures.any_moment settled) (c.in_ok-close_gate.ensures.settled settled) c.in_ok-close_gate.ensures.shut in
    emptied _ _ _ _ first c.cut_synced.ensures.any_moment

pub returns-in_err-write_synced-clause-any_moment : goal.returns-in_err-write_synced-clause-any_moment
returns-in_err-write_synced-clause-any_moment g c settled =
    let first = shut c.args.payload.now _ _ (c.close_gate.ensures.any_moment settled) (c.in_ok-close_gate.ensures.settled settled) c.in_ok-close_gate.ensures.shut in
    let second = reach _ (λ seen. seen ≡ []) _ _ _ first.run.disk (emptied _ _ _ _ first c.cut_synced.ensures.any_moment) c.in_ok-cut_synced.ensures.settled c.in_ok-cut_synced.ensures.cut in
    begun _ _ _ _ second c.write_synced.ensures.any_moment

pub returns-in_err-fill-clause-any_moment : goal.returns-in_err-fill-clause-any_moment
returns-in_err-fill-clause-any_moment g c settled =
    let first = shut c.args.payload.now _ _ (c.close_gate.ensures.any_moment settled) (c.in_ok-close_gate.ensures.settled settled) c.in_ok-close_gate.ensures.shut in
    let second = reach _ (λ seen. seen ≡ []) _ _ _ first.run.disk (emptied _ _ _ _ first c.cut_synced.ensures.any_moment) c.in_ok-cut_synced.ensures.settled c.in_ok-cut_synced.ensures.cut in
    let third = reach _ (λ seen. seen ≡ 0 ∷ []) _ _ _ second.run.disk (begun _ _ _ _ second c.write_synced.ensures.any_moment) c.in_ok-write_synced.ensures.settled
    (λ tells. c.in_ok-write_synced.ensures.written tells ∙ ap (λ (l : List ℕ). overwritten l 0 (0 ∷ [])) (second.reads (told_before _ _ second.run.disk tells))) in
    filled _ _ _ _ third c.fill.ensures.any_moment

pub returns-clause-any_moment : goal.returns-clause-any_moment
returns-clause-any_moment g c settled =
    let first = shut c.args.payload.now _ _ (c.close_gate.ensures.any_moment settled) (c.in_ok-close_gate.ensures.settled settled) c.in_ok-close_gate.ensures.shut in
    let second = reach _ (λ seen. seen ≡ []) _ _ _ first.run.disk (emptied _ _ _ _ first c.cut_synced.ensures.any_moment) c.in_ok-cut_synced.ensures.settled c.in_ok-cut_synced.ensures.cut in
    let third = reach _ (λ seen. seen ≡ 0 ∷ []) _ _ _ second.run.disk (begun _ _ _ _ second c.write_synced.ensures.any_moment) c.in_ok-write_synced.ensures.settled
    (λ tells. c.in_ok-write_synced.ensures.written tells ∙ ap (λ (l : List ℕ). overwritten l 0 (0 ∷ [])) (second.reads (told_before _ _ second.run.disk tells))) in
    let fourth = reach _ (λ seen. seen ≡ 0 ∷ big_bytes 4 (length c.args.payload.now) ++ c.args.payload.now) _ _ _ third.run.disk (filled _ _ _ _ third c.fill.ensures.any_moment) c.in_ok-fill.ensures.settled c.in_ok-fill.ensures.written in
    opened _ _ _ _ c.requires fourth c.write_synced-2.ensures.any_moment

pub returns-in_err-close_gate-clause-disk : goal.returns-in_err-close_gate-clause-disk
returns-in_err-close_gate-clause-disk g c = c.close_gate.ensures.disk

pub returns-in_err-close_gate-clause-cause : goal.returns-in_err-close_gate-clause-cause
returns-in_err-close_gate-clause-cause g c =
    let faults = g.D.Counted.faults in
    let cause = c.in_err-close_gate.ensures.cause in
    cause_failed c.from_residual.result (faults c.args.disk.now) (faults c.args.disk.now) (faults c.close_gate.new.disk) (le_refl _) cause.later cause.failed

pub returns-in_err-cut_synced-clause-disk : goal.returns-in_err-cut_synced-clause-disk
returns-in_err-cut_synced-clause-disk g c = then_same _ _ _ c.close_gate.ensures.disk c.cut_synced.ensures.any_moment.disk

pub returns-in_err-cut_synced-clause-cause : goal.returns-in_err-cut_synced-clause-cause
returns-in_err-cut_synced-clause-cause g c =
    let faults = g.D.Counted.faults in
    let cause = c.in_err-cut_synced.ensures.cause in
    cause_failed c.from_residual-in_err-cut_synced.result (faults c.args.disk.now) (faults c.close_gate.new.disk) (faults c.cut_synced.new.disk) (c.in_ok-close_gate.ensures.cause.later) cause.later cause.failed

pub returns-in_err-write_synced-clause-disk : goal.returns-in_err-write_synced-clause-disk
returns-in_err-write_synced-clause-disk g c = then_same _ _ _ (then_same _ _ _ c.close_gate.ensures.disk c.cut_synced.ensures.any_moment.disk) c.write_synced.ensures.any_moment.disk

pub returns-in_err-write_synced-clause-cause : goal.returns-in_err-write_synced-clause-cause
returns-in_err-write_synced-clause-cause g c =
    let faults = g.D.Counted.faults in
    let cause = c.in_err-write_synced.ensures.cause in
    cause_failed c.from_residual-in_err-write_synced.result (faults c.args.disk.now) (faults c.cut_synced.new.disk) (faults c.write_synced.new.disk) (le_trans c.in_ok-close_gate.ensures.cause.later c.in_ok-cut_synced.ensures.cause.later) cause.later cause.failed

pub returns-in_err-fill-clause-disk : goal.returns-in_err-fill-clause-disk
returns-in_err-fill-clause-disk g c = then_same _ _ _ (then_same _ _ _ (then_same _ _ _ c.close_gate.ensures.disk c.cut_synced.ensures.any_moment.disk) c.write_synced.ensures.any_moment.disk) c.fill.ensures.any_moment.disk

pub returns-in_err-fill-clause-cause : goal.returns-in_err-fill-clause-cause
returns-in_err-fill-clause-cause g c =
    let faults = g.D.Counted.faults in
    let cause = c.in_err-fill.ensures.cause in
    cause_failed c.from_residual-in_err-fill.result (faults c.args.disk.now) (faults c.write_synced.new.disk) (faults c.fill.new.disk) (le_trans (le_trans c.in_ok-close_gate.ensures.cause.later c.in_ok-cut_synced.ensures.cause.later) c.in_ok-write_synced.ensures.cause.later) cause.later cause.failed

pub fill-requires-clause-shut : goal.fill-requires-clause-shut
fill-requires-clause-shut g c tells =
    let emptied_tells = told_before _ _ c.write_synced.ensures.any_moment.disk tells in
    let closed_tells = told_before _ _ c.cut_synced.ensures.any_moment.disk emptied_tells in
    c.in_ok-write_synced.ensures.written emptied_tells ∙ ap (λ (l : List ℕ). overwritten l 0 (0 ∷ [])) (c.in_ok-cut_synced.ensures.cut closed_tells)

pub fill-requires-clause-settled : goal.fill-requires-clause-settled
fill-requires-clause-settled g c tells = c.in_ok-write_synced.ensures.settled (told_before _ _ c.write_synced.ensures.any_moment.disk tells)

pub returns-clause-disk : goal.returns-clause-disk
returns-clause-disk g c = then_same _ _ _ (then_same _ _ _ (then_same _ _ _ (then_same _ _ _ c.close_gate.ensures.disk c.cut_synced.ensures.any_moment.disk) c.write_synced.ensures.any_moment.disk) c.fill.ensures.any_moment.disk) c.write_synced-2.ensures.any_moment.disk

pub returns-clause-written : goal.returns-clause-written
returns-clause-written g c tells =
    let begun_tells = told _ _ (then_same _ _ _ (then_same _ _ _ c.close_gate.ensures.disk c.cut_synced.ensures.any_moment.disk) c.write_synced.ensures.any_moment.disk) tells in
    let filled_tells = told _ _ c.fill.ensures.any_moment.disk begun_tells in
    on_ok c.write_synced-2.result (λ written. written ∙ ap (λ (l : List ℕ). overwritten l 0 (1 ∷ [])) (c.in_ok-fill.ensures.written begun_tells)) (c.write_synced-2.ensures.written filled_tells)

pub returns-clause-settled : goal.returns-clause-settled
returns-clause-settled g c tells = c.write_synced-2.ensures.settled (told _ _ (then_same _ _ _ (then_same _ _ _ (then_same _ _ _ c.close_gate.ensures.disk c.cut_synced.ensures.any_moment.disk) c.write_synced.ensures.any_moment.disk) c.fill.ensures.any_moment.disk) tells)

pub returns-clause-cause : goal.returns-clause-cause
returns-clause-cause g c =
    let faults = g.D.Counted.faults in
    cause_since c.write_synced-2.result (faults c.args.disk.now) (faults c.fill.new.disk) (faults c.write_synced-2.new.disk) (le_trans (le_trans (le_trans c.in_ok-close_gate.ensures.cause.later c.in_ok-cut_synced.ensures.cause.later) c.in_ok-write_synced.ensures.cause.later) c.in_ok-fill.ensures.cause.later) c.write_synced-2.ensures.cause
