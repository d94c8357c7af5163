use Rattle.std.proofs.Common.{◌∙◌, ap, sym, Some, option_map}
use Rattle.command_words.specs.LookRequests.{draw_asked}
use Rattle.command_words.proofs.look_requests.draw_of.Goals as goal

pub returns-in-Some : goal.returns-in-Some
returns-in-Some c = ap Some c.draw_asked.ensures ∙ ap (option_map draw_asked) (sym c.in-Some.is ∙ c.in_ok-given.ensures)

pub returns-in-None : goal.returns-in-None
returns-in-None c = ap (option_map draw_asked) (sym c.in-None.is ∙ c.in_ok-given.ensures)
