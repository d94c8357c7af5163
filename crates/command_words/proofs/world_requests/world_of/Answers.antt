use Rattle.std.proofs.Common.{◌∙◌, ap, sym, Some, option_map}
use Rattle.command_words.specs.WorldCommands.{world_asked}
use Rattle.command_words.proofs.world_requests.world_of.Goals as goal

pub returns-in-Some : goal.returns-in-Some
returns-in-Some c = ap Some c.world_asked.ensures ∙ ap (option_map world_asked) (sym c.in-Some.is ∙ c.in_ok-given.ensures)

pub returns-in-None : goal.returns-in-None
returns-in-None c = ap (option_map world_asked) (sym c.in-None.is ∙ c.in_ok-given.ensures)
