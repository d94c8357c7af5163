use Rattle.std.proofs.Common.{◌≡◌, ◌∙◌, ap, sym, subst, Option, option_map, IfOk}
use Rattle.std.specs.Prelude.{option_and_then}
use Rattle.command_words.specs.SealCommands.{unseal_asked}
use Rattle.command_words.specs.SealRequests.{SealText}
use Rattle.command_words.specs.Seen.{seal_seen}
use Rattle.command_words.proofs.seal_requests.unseal_of.Goals as goal

pub returns-in-Some : goal.returns-in-Some
returns-in-Some c =
    subst (λ (read : Option SealText). IfOk c.unseal_asked.result (λ found. option_map seal_seen found ≡ read))
    (ap (option_and_then unseal_asked) (sym c.in-Some.is ∙ c.in_ok-given.ensures)) c.unseal_asked.ensures

pub returns-in-None : goal.returns-in-None
returns-in-None c = ap (option_and_then unseal_asked) (sym c.in-None.is ∙ c.in_ok-given.ensures)
