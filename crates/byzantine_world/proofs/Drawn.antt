-- Each replica of a new world has the key that is drawn for its place.
use Rattle.std.proofs.Common.{◌≡◌, ℕ, ◌+◌, ◌*◌, List, [], inl, inr, ◌∷◌, ◌++◌, length, refl, sym, ap, subst, ◌∙◌, arith}
use Rattle.byzantine_world.proofs.Reported.{last_cases}
use Rattle.key_index.specs.Creating.{after_draw, drawn_key}
use Rattle.lms_tree.specs.declared.seed.KeyTypes.{KeyTypes}
use Rattle.numbered_words.specs.Numbered.{state_after, word_steps}
use Rattle.numbered_words.proofs.Drawn.{after_more}
use Rattle.rand_core.specs.Steps.{stream_of}
use Rattle.world_rules.specs.Drawn.{HaveDrawnKeys, key_for}
use Rattle.world_rules.specs.Worlds.{SiteData}
use Rattle.world_rules.proofs.Drawing.{after_key}

-- at the beginning there are none, and no word was drawn
pub keys_none : (types : KeyTypes) (number : ℕ) (sites : List SiteData) → sites ≡ [] → HaveDrawnKeys types number sites
keys_none types number sites none = subst (HaveDrawnKeys types number) (sym none) (λ r site is. absurd cc)

pub drawn_first : (number : ℕ) → stream_of word_steps number ≡ stream_of word_steps (state_after (6 * 0) number)
unfolding state_after
drawn_first number = refl

-- one more
pub keys_more : (types : KeyTypes) (number place state : ℕ) (sites : List SiteData) (site : SiteData) → length sites ≡ place → HaveDrawnKeys types number sites
    → stream_of word_steps state ≡ stream_of word_steps (state_after (6 * place) number) → site.key.secret ≡ drawn_key types.lms types.ots (stream_of word_steps state)
    → HaveDrawnKeys types number (sites ++ site ∷ [])
keys_more types number place state sites site many keys drawn is r other there = elim (last_cases sites site r other there) [
  | inl before ↦ keys r other before
  | inr here ↦ subst (λ (x : SiteData). x.key.secret ≡ key_for types number r) here.1
      (is ∙ ap (drawn_key types.lms types.ots) drawn ∙ ap (key_for types number) (sym (here.0 ∙ many)))
]

pub drawn_more : (number place state next : ℕ) → stream_of word_steps state ≡ stream_of word_steps (state_after (6 * place) number)
    → stream_of word_steps next ≡ stream_of word_steps (state_after 6 state) → stream_of word_steps next ≡ stream_of word_steps (state_after (6 * (place + 1)) number)
drawn_more number place state next drawn more =
    let six_on : 6 + 6 * place ≡ 6 * (place + 1) = omega arith in
    more ∙ sym (after_key state) ∙ ap after_draw drawn ∙ after_key (state_after (6 * place) number)
    ∙ ap (stream_of word_steps) (after_more 6 (6 * place) number ∙ ap (λ (n : ℕ). state_after n number) six_on)
