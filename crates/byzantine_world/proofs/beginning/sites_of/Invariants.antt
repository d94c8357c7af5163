use Rattle.std.proofs.Common.{◌≡◌, ◌≤◌, ◌*◌, All, length}
use Rattle.std.specs.Vec.{vec_capacity}
use Rattle.byzantine_world.specs.Begun.{IsNewOf}
use Rattle.numbered_words.specs.Numbered.{state_after, word_steps}
use Rattle.rand_core.specs.Steps.{stream_of}
use Rattle.world_rules.specs.Drawn.{HaveDrawnKeys}
use Rattle.byzantine_world.proofs.beginning.sites_of.Given as goal

-- the replicas so far are new, with the keys that are drawn for their places, and there is room for all
abbrev pub invariant-sites : goal.invariant-sites
invariant-sites l = record {
  new : All (IsNewOf l.text l.count) l.sites.items;
  many : length l.sites.items ≡ l.replica;
  room : l.count ≤ vec_capacity l.sites;
  keys : HaveDrawnKeys l.types l.fn.words l.sites.items;
  drawn : stream_of word_steps l.words ≡ stream_of word_steps (state_after (6 * l.replica) l.fn.words);
}
