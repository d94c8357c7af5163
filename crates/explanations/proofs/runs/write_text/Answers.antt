use Rattle.explanations.proofs.Told.{text_said}
use Rattle.explanations.proofs.runs.write_text.Goals as goal

pub returns : goal.returns
returns g c =
    text_said (g.K.Sink.held c.args.errors.now) (g.K.Sink.held c.write_all_of.new.sink) (g.K.Counted.faults c.args.errors.now) (g.K.Counted.faults c.write_all_of.new.sink) c.write_all_of.result c.args.text.now c.write_all_of.ensures.bytes
    c.write_all_of.ensures.cause
