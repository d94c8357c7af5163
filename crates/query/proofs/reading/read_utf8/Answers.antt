use Rattle.std.proofs.Common.{ap, ◌∙◌}
use Rattle.query.specs.Outcome.{data_of}
use Rattle.query.specs.Pieces.{Placed}
use Rattle.query.proofs.Saying.{reads_from, cause_stop}
use Rattle.query.proofs.reading.read_utf8.Goals as goal

pub returns-in-Ok-clause-found : goal.returns-in-Ok-clause-found
returns-in-Ok-clause-found c =
    let words = c.as_slice-words.ensures.value ∙ ap (λ (p : Placed). p.0) c.in_ok-pieces.ensures in
    reads_from c.args.schema.now c.args.text.now (data_of c.in-Ok.query) c.as_slice-words.result.now c.requires.few c.requires.utf8 words c.in-Ok.ensures.found

pub returns-clause-fault : goal.returns-clause-fault
returns-clause-fault c =
    let words = c.as_slice-words.ensures.value ∙ ap (λ (p : Placed). p.0) c.in_ok-pieces.ensures in
    let spots = c.as_slice-spots.ensures.value ∙ ap (λ (p : Placed). p.1) c.in_ok-pieces.ensures in
    rw c.error_of.ensures
    (cause_stop c.args.schema.now c.args.text.now c.as_slice-words.result.now c.as_slice-spots.result.now c.in-Err.stop c.requires.few c.requires.utf8 words spots c.in-Err.ensures.wrong)
