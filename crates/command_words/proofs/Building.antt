-- A command that is built argument by argument.
use Rattle.std.proofs.Common.{◌≡◌, ◌+◌, ◌<◌, ℕ, List, [], ◌∷◌, length, map, take, get_or, refl}
use Rattle.std.proofs.lemmas.List.{take_more, map-append}
use Rattle.clap.specs.Words.{Text, with_rule}
use Rattle.command_words.specs.declared.argument.Argument.{Argument}
use Rattle.command_words.specs.Words.{command_app, rule_for}

pub one_more_rule : (name : Text) (arguments : List Argument) (i : ℕ) (d : Argument) → i < length arguments
    → with_rule (command_app name (map rule_for (take i arguments))) (rule_for (get_or arguments i d)) ≡ command_app name (map rule_for (take (i + 1) arguments))
one_more_rule name arguments i d h = rw (take_more arguments i d h, map-append rule_for (take i arguments) (get_or arguments i d ∷ [])) refl
