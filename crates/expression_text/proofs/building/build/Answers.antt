use Rattle.std.proofs.lemmas.Result.{IfOk-weaker}
use Rattle.expression_text.specs.Views.{reading_of, frames_of}
use Rattle.expression_text.proofs.Whole.{last_some, last_reads}
use Rattle.expression_text.proofs.building.build.Goals as goal

pub finish-requires : goal.finish-requires
finish-requires c =
    last_some c.args.names.now c.args.tokens.now c.loop-token.token-index (reading_of c.loop-token.progress) (frames_of c.loop-token.pending.items)
    c.loop-token-test.false c.loop-token.invariant c.requires.expression

pub returns : goal.returns
returns c =
    IfOk-weaker c.finish.result _ _ (last_reads c.args.names.now c.args.tokens.now c.loop-token.token-index (reading_of c.loop-token.progress)
    (frames_of c.loop-token.pending.items) c.loop-token-test.false c.loop-token.invariant) c.finish.ensures
