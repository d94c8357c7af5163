use Rattle.std.proofs.Common.{◌≡◌, ◌≤◌, All, length}
use Rattle.std.specs.Vec.{vec_capacity}
use Rattle.demonstration.specs.Demos.{drawn_from}
use Rattle.demonstration.specs.Sites.{IsFresh, draws}
use Rattle.numbered_words.specs.Numbered.{word_steps}
use Rattle.rand_core.specs.Steps.{stream_of}
use Rattle.demonstration.proofs.running.begun.Given as goal

-- there are so many authors, whose keys were drawn one after the other, and room for four
abbrev pub invariant-authors : goal.invariant-authors
invariant-authors l = record {
  many : length l.authors.items ≡ l.number;
  drawn : stream_of word_steps l.words ≡ draws l.number (stream_of word_steps l.fn.words);
  fresh : All (IsFresh l.text (drawn_from (stream_of word_steps l.fn.words))) l.authors.items;
  room : 4 ≤ vec_capacity l.authors;
}
