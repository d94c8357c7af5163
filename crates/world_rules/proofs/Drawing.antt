-- A key that is drawn from numbered words stands in its part, and is drawn at no other place.
use Rattle.std.proofs.Common.{◌≡◌, ℕ, ◌+◌, ◌-◌, ◌*◌, ◌/◌, ◌≤◌, ◌<◌, ◌^◌, List, [], ◌++◌, length, refl, sym, ap, ap₂, subst, ◌∙◌, arith, length-append, length-take}
use Rattle.std.specs.Int.{w32, w64, to_be_bytes}
use Rattle.rand_core.specs.Steps.{stream_of, word_bytes}
use Rattle.rand_core.specs.Stream.{Stream, fill_bytes}
use Rattle.rand_core.proofs.StepsLemmas.{fill_bytes-stream_of}
use Rattle.numbered_words.specs.Numbered.{fill_from_words, next_word, state_after, word_steps}
use Rattle.numbered_words.proofs.Drawn.{after_more, one_draw, words_length, words_state}
use Rattle.bec_disk.specs.Replay.{MemDiskState, new_disk, state_of}
use Rattle.bec_disk.proofs.Gates.{gated-whole}
use Rattle.key_index.specs.Creating.{CreatesKey, after_draw, drawn_key}
use Rattle.key_index.specs.KeyState.{KeyParts, KeyState}
use Rattle.key_index.specs.Opening.{Holds}
use Rattle.key_index.specs.Payload.{IsPayload, payload_of}
use Rattle.lm_ots.specs.OtsKind as ots_kind
use Rattle.lm_ots.specs.declared.ots_type.OtsType.{OtsType}
use Rattle.lms_tree.specs.LmsKind.{type_word}
use Rattle.lms_tree.specs.SecretKey.{SecretData}
use Rattle.lms_tree.specs.declared.lms_type.LmsType.{LmsType}
use Rattle.lms_tree.specs.declared.seed.KeyTypes.{KeyTypes}
use Rattle.world_rules.specs.Drawn.{key_for}
use Rattle.world_rules.specs.Sites.{fresh_parts}

filled : (n k state : ℕ) → (n + 7) / 8 ≡ k → n ≤ 8 * k → length (fill_from_words n state).0 ≡ n
filled n k state is within =
    let all = word_bytes (to_be_bytes w64) next_word ((n + 7) / 8) state in
    let size : length all.0 ≡ 8 * k = words_length ((n + 7) / 8) state ∙ ap (λ (x : ℕ). 8 * x) is in
    omega (arith, length-take n all.0, size)

-- the bytes that the words fill a buffer with are as many as it has
drawn : (n k state : ℕ) → (n + 7) / 8 ≡ k → n ≤ 8 * k → length (fill_bytes n (stream_of word_steps state)).0 ≡ n
drawn n k state is within = ap (λ (p : List ℕ × Stream). length p.0) (fill_bytes-stream_of word_steps n state) ∙ filled n k state is within

next_stream : (n state : ℕ) → (fill_bytes n (stream_of word_steps state)).1 ≡ stream_of word_steps (fill_from_words n state).1
next_stream n state = ap (λ (p : List ℕ × Stream). p.1) (fill_bytes-stream_of word_steps n state)

is_payload : (lms : LmsType) (ots : OtsType) (state : ℕ) → IsPayload (payload_of (drawn_key lms ots (stream_of word_steps state))) (drawn_key lms ots (stream_of word_steps state))
is_payload lms ots state = record {
  spelled = refl;
  ident = drawn 16 2 state refl (omega arith);
  start = subst (λ (s : Stream). length (fill_bytes 32 s).0 ≡ 32) (sym (next_stream 16 state)) (drawn 32 4 (fill_from_words 16 state).1 refl (omega arith));
}

payload_short : (secret : SecretData) → IsPayload (payload_of secret) secret → length (payload_of secret) < 2 ^ 32
payload_short secret is =
    let tree = to_be_bytes w32 (type_word secret.lms) in
    let leaf = to_be_bytes w32 (ots_kind.type_word secret.ots) in
    let first = length-append tree (leaf ++ secret.ident ++ secret.start) in
    let second = length-append leaf (secret.ident ++ secret.start) in
    let third = length-append secret.ident secret.start in
    let four : length tree ≡ 4 = refl in
    let also : length leaf ≡ 4 = refl in
    omega (arith, first, second, third, four, also, is.ident, is.start)

-- A key that was created so stands in its part.
pub holds_drawn : (lms : LmsType) (ots : OtsType) (state : ℕ) (store : KeyState) → CreatesKey (drawn_key lms ots (stream_of word_steps state)) (fresh_parts [] []) store
    → Holds store.parts.key.seen store.secret
holds_drawn lms ots state store c =
    let secret = drawn_key lms ots (stream_of word_steps state) in
    let is = is_payload lms ots state in
    subst (Holds store.parts.key.seen) (sym c.made) (subst (λ (bytes : List ℕ). Holds bytes secret) (sym (c.key refl).seen) (record {
      payload = payload_of secret;
      whole = gated-whole (payload_of secret) (payload_short secret is);
      is_payload = is;
    }))

-- The same over two disks that are made.
pub holds_made : (lms : LmsType) (ots : OtsType) (state : ℕ) (key used : MemDiskState) (store : KeyState) → key ≡ new_disk [] [] (2 ^ 64 - 1) → used ≡ new_disk [] [] (2 ^ 64 - 1)
    → CreatesKey (drawn_key lms ots (stream_of word_steps state)) (record { key = state_of key; key_faults = key.plan.faults; used = state_of used; used_faults = used.plan.faults }) store
    → Holds store.parts.key.seen store.secret
holds_made lms ots state key used store k u c =
    holds_drawn lms ots state store (subst (λ (parts : KeyParts). CreatesKey (drawn_key lms ots (stream_of word_steps state)) parts store)
    (ap₂ (λ (a b : MemDiskState). record { key = state_of a; key_faults = a.plan.faults; used = state_of b; used_faults = b.plan.faults }) k u) c)

-- ---- where it is drawn

-- behind two words and four more are six
pub after_key : (state : ℕ) → after_draw (stream_of word_steps state) ≡ stream_of word_steps (state_after 6 state)
after_key state =
    ap (λ (s : Stream). (fill_bytes 32 s).1) (next_stream 16 state) ∙ next_stream 32 (fill_from_words 16 state).1
    ∙ ap (λ (s : ℕ). stream_of word_steps (fill_from_words 32 s).1) (words_state 2 state) ∙ ap (stream_of word_steps) (words_state 4 (state_after 2 state) ∙ after_more 4 2 state)

-- what an identifier is drawn as
ident_of : (types : KeyTypes) (number r : ℕ) → (key_for types number r).ident ≡ (fill_from_words 16 (state_after (6 * r) number)).0
ident_of types number r = ap (λ (p : List ℕ × Stream). p.0) (fill_bytes-stream_of word_steps 16 (state_after (6 * r) number))

-- one identifier is drawn at one place
pub one_place : (types : KeyTypes) (number r q : ℕ) → r ≤ 16 → q ≤ 16 → (key_for types number r).ident ≡ (key_for types number q).ident → r ≡ q
one_place types number r q low below same =
    let one = one_draw number 16 (6 * r) (6 * q) (omega arith) (omega arith) (omega arith) (sym (ident_of types number r) ∙ same ∙ ident_of types number q) in
    omega (arith, one)

-- what a SEED is drawn as
start_of : (types : KeyTypes) (number r : ℕ) → (key_for types number r).start ≡ (fill_from_words 32 (state_after (2 + 6 * r) number)).0
start_of types number r =
    let state = state_after (6 * r) number in
    ap (λ (s : Stream). (fill_bytes 32 s).0) (next_stream 16 state) ∙ ap (λ (p : List ℕ × Stream). p.0) (fill_bytes-stream_of word_steps 32 (fill_from_words 16 state).1)
    ∙ ap (λ (s : ℕ). (fill_from_words 32 s).0) (words_state 2 state ∙ after_more 2 (6 * r) number)

-- one SEED is drawn at one place
pub one_seed : (types : KeyTypes) (number r q : ℕ) → r ≤ 16 → q ≤ 16 → (key_for types number r).start ≡ (key_for types number q).start → r ≡ q
one_seed types number r q low below same =
    let one = one_draw number 32 (2 + 6 * r) (2 + 6 * q) (omega arith) (omega arith) (omega arith) (sym (start_of types number r) ∙ same ∙ start_of types number q) in
    omega (arith, one)
