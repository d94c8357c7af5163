use Rattle.clap.specs.Words.{found_of}
use Rattle.clap.proofs.WalkLemmas.{first_value-rows}
use Rattle.command_words.proofs.given.Given.word.Goals as goal

pub returns : goal.returns
returns c =
    let rows = first_value-rows (found_of c.self.inside.matches) c.args.name.now in
    let view = c.self.view_is in
    let got = c.get_str.ensures in
    cc
