use Rattle.std.proofs.Common.{◌∙◌, List, ap, map, string_bytes}
use Rattle.clap.specs.Words.{App, Text, app_of, is_simple_and_free}
use Rattle.command_words.specs.Words.{rows_given}
use Rattle.command_words.proofs.Refusing.{refused}
use Rattle.command_words.proofs.reading.read_words.Goals as goal

pub returns : goal.returns
returns c =
    let app_is = c.in_ok-command.ensures in
    let words : List Text = map string_bytes c.args.words.now in
    let kinds = c.in-Err.ensures.kinds (ap is_simple_and_free app_is ∙ c.requires.simple) in
    let none = refused (app_of c.in_ok-command.command) words c.in-Err.error (λ h. c.in_default.not-OutOfMemory (c.kind.ensures ∙ h)) kinds in
    none ∙ ap (λ (a : App). rows_given a words) app_is
