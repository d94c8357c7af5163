use Rattle.std.proofs.lemmas.Result.{err_from_is_err_and}
use Rattle.command_words.specs.Seen.{question_seen}
use Rattle.look_commands.specs.Looks.{ShowsMembers}
use Rattle.look_commands.proofs.Answering.{shown_done, shown_refused}
use Rattle.look_commands.proofs.looking.bundle_text.Goals as goal

pub returns-in_err-bundle : goal.returns-in_err-bundle
returns-in_err-bundle g c =
    let p = err_from_is_err_and c.from_residual.result c.from_residual.ensures.1 in
    rw (p.1, p.2) (shown_refused (ShowsMembers (question_seen c.args.question.now)) (g.S.Source.left c.args.input.now) (g.S.Source.left c.read_bundle.new.input)
    (g.S.Counted.faults c.args.input.now) (g.S.Counted.faults c.read_bundle.new.input) c.in_err-bundle.field-0.0 c.in_err-bundle.ensures.refused)

pub returns : goal.returns
returns g c =
    shown_done (ShowsMembers (question_seen c.args.question.now)) (g.S.Source.left c.args.input.now) (g.S.Source.left c.read_bundle.new.input)
    (g.S.Counted.faults c.args.input.now) (g.S.Counted.faults c.read_bundle.new.input) c.in_ok-bundle.bundle.schema c.in_ok-bundle.bundle.graph c.shown.result
    c.in_ok-bundle.ensures.held (rw (c.members.ensures.schema, c.members.ensures.graph) at c.shown.ensures)
