use Rattle.std.proofs.Common.{◌∙◌, ap₂}
use Rattle.clap.specs.Words.{with_rule}
use Rattle.command_words.proofs.Building.{one_more_rule}
use Rattle.command_words.proofs.reading.command_of.Goals as goal

pub loop-argument-preserved : goal.loop-argument-preserved
loop-argument-preserved c =
    let shape = c.in_ok-command.ensures.shape c.declared.ensures.local in
    shape ∙ ap₂ with_rule c.loop-argument.invariant c.declared.ensures.rule
    ∙ one_more_rule c.args.name.now c.args.arguments.now c.loop-argument.argument-index _ c.loop-argument-test.true
