-- The words of a number, and the stream that they are.
use Rattle.std.specs.Prelude.{ℕ, zero, suc, ◌+◌, ◌/◌, ◌^◌, List}
use Rattle.std.specs.Int.{w64, to_be_bytes}
use Rattle.rand_core.specs.Steps.{Steps, first_bytes, word_bytes}
use Rattle.rand_xoshiro.specs.SplitMix64.{mix_u64}

-- the next word at a state, and the state after it
abbrev pub next_word : ℕ → ℕ × ℕ
next_word state = mix_u64 state

-- the state behind so many words
unfoldable pub state_after : ℕ → ℕ → ℕ
state_after zero state = state
state_after (suc n) state = (next_word (state_after n state)).1

-- the word that stands behind so many words of a number
abbrev pub word_at : ℕ → ℕ → ℕ
word_at number place = (next_word (state_after place number)).0

-- n bytes from words, high byte first; what a last word has over is dropped
abbrev pub fill_from_words : ℕ → ℕ → List ℕ × ℕ
fill_from_words n state = first_bytes n (word_bytes (to_be_bytes w64) next_word ((n + 7) / 8) state)

-- the three calls of a generator: half a word, a word, and bytes
abbrev pub word_steps : Steps ℕ
word_steps = record { next_u32 = λ state. ((next_word state).0 / 2 ^ 32, (next_word state).1); next_u64 = next_word; fill_bytes = fill_from_words }
