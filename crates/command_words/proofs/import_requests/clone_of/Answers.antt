use Rattle.std.proofs.Common.{◌∙◌, ap, sym}
use Rattle.std.specs.Prelude.{option_and_then}
use Rattle.command_words.specs.ImportRequests.{clone_asked}
use Rattle.command_words.proofs.import_requests.clone_of.Goals as goal

pub returns-in-Some : goal.returns-in-Some
returns-in-Some c = c.clone_asked.ensures ∙ ap (option_and_then clone_asked) (sym c.in-Some.is ∙ c.in_ok-given.ensures)

pub returns-in-None : goal.returns-in-None
returns-in-None c = ap (option_and_then clone_asked) (sym c.in-None.is ∙ c.in_ok-given.ensures)
