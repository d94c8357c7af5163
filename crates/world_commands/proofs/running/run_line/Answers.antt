use Rattle.std.proofs.Common.{[], append-nil, refl, sym}
use Rattle.world_commands.specs.Lines.{missed_of}
use Rattle.world_commands.proofs.running.run_line.Goals as goal

pub returns-in_ok-push_stepped-in-One-clause-happens : goal.returns-in_ok-push_stepped-in-One-clause-happens
returns-in_ok-push_stepped-in-One-clause-happens c =
    rw c.in-One.is
    (λ w shows.
    let h = c.in_ok-stepped-in-One.ensures.happens w shows in
    record {
      missed = missed_of c.in-One.line c.in_ok-stepped-in-One.stepped;
      next = h.0;
      happens = (c.in_ok-stepped-in-One.stepped, h.1, refl);
      shows = h.2;
      added = c.in_ok-push_stepped-in-One.ensures;
    })

pub returns-in_ok-run_session-in-Run-clause-happens : goal.returns-in_ok-run_session-in-Run-clause-happens
returns-in_ok-run_session-in-Run-clause-happens c =
    rw c.in-Run.is
    (λ w shows.
    let h = c.in_ok-run_session-in-Run.ensures.happens w shows in
    record { missed = []; next = h.0; happens = (h.1, refl); shows = h.2; added = sym (append-nil c.args.report.now.items) })
