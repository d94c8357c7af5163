use Rattle.std.proofs.Common.{◌≡◌, map, take}
use Rattle.clap.specs.Words.{app_of}
use Rattle.command_words.specs.Words.{command_app, rule_for}
use Rattle.command_words.proofs.reading.command_of.Given as goal

-- the arguments so far are declared
abbrev pub invariant-loop-argument : goal.invariant-loop-argument
invariant-loop-argument l = app_of l.command ≡ command_app l.name (map rule_for (take l.argument-index l.arguments))
