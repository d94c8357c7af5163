use Rattle.std.proofs.Common.{◌≡◌, [], ◌++◌, rules}
use Rattle.std.specs.Prelude.{map, string_bytes}
use Rattle.explanations.specs.Run.{note_of, told_of}
use Rattle.explanations.proofs.Told.{said_from}
use Rattle.explanations.proofs.runs.explain_run.Goals as goal

pub returns : goal.returns
returns c =
    let run = c.args.run.now in
    let note : c.push_note.new.out.items ≡ [] ++ note_of c.word_at.result.now run.read.now = search rules in
    let told : c.push_told.new.out.items ≡ c.push_note.new.out.items ++ told_of (map string_bytes run.words.now) run.directory.now run.status run.read.now run.heard.now = search rules in
    said_from _ run.directory.now run.status run.read.now run.heard.now c.word_at.result.now c.push_note.new.out.items c.push_told.new.out.items c.word_at.ensures note told
