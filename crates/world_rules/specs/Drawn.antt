-- Which keys the replicas of a world have.
use Rattle.std.specs.Prelude.{◌≡◌, ℕ, ◌*◌, List, Some, slice_get}
use Rattle.key_index.specs.Creating.{drawn_key}
use Rattle.lms_tree.specs.SecretKey.{SecretData}
use Rattle.lms_tree.specs.declared.seed.KeyTypes.{KeyTypes}
use Rattle.numbered_words.specs.Numbered.{state_after, word_steps}
use Rattle.rand_core.specs.Steps.{stream_of}
use Rattle.world_rules.specs.Worlds.{SiteData}

-- The key of these types that a world's number draws for the replica at a place. Each key takes six of the number's words, two for I and four for SEED.
abbrev pub key_for : KeyTypes → ℕ → ℕ → SecretData
key_for types number place = drawn_key types.lms types.ots (stream_of word_steps (state_after (6 * place) number))

-- Each of these replicas has the key that the number draws for its place.
abbrev pub HaveDrawnKeys : KeyTypes → ℕ → List SiteData → Type 0
HaveDrawnKeys types number sites = (r : ℕ) (site : SiteData) → slice_get sites r ≡ Some site → site.key.secret ≡ key_for types number r
