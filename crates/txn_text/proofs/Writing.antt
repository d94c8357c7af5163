-- Reading values one after another, as a loop does.
use Rattle.std.proofs.Common.{◌≡◌, ℕ, ◌<◌, List, [], ◌∷◌, ◌++◌, length, Option, Some, None, Ok, Err, refl, sym, ap, subst, ◌∙◌, arith}
use Rattle.std.specs.List.{AllByRecursion}
use Rattle.update_model.specs.declared.value.Value.{Value}
use Rattle.text_words.specs.declared.style.Style.TheVariants.{Spaced}
use Rattle.text_words.specs.declared.word.Word.{Word}
use Rattle.text_words.specs.Words.{Read, skip_blanks, first_word}
use Rattle.text_words.proofs.WordsLemmas.{word_shorter}
use Rattle.txn_text.specs.declared.stop.Stop.{Stop}
use Rattle.txn_text.specs.declared.stop.Stop.TheVariants as stop
use Rattle.txn_text.specs.declared.stop.Wrong.{Wrong}
use Rattle.txn_text.specs.declared.verb.Verb.{Verb}
use Rattle.txn_text.specs.Operations.{placed, value_by, value_at, next_value, Write}
use Rattle.txn_text.specs.Outcome.{IsStop}
use Rattle.txn_text.specs.Values.{Written, value_for}

-- where a word begins, what it writes is next
value_starts : (verb : Verb) (before : ℕ) (start : List ℕ) → 0 < length start → value_at verb before start ≡ value_by verb before start (first_word Spaced start)
value_starts verb before [] h = absurd (omega arith)
value_starts verb before (byte ∷ bytes) h = refl

pub next_is : (verb : Verb) (before : ℕ) (rest start after : List ℕ) (word : Word) (written : Written) → start ≡ skip_blanks rest → 0 < length start
    → first_word Spaced start ≡ Some (word, after) → written ≡ value_for verb before word → next_value verb before rest ≡ placed start after written
next_is verb before rest start after word written e h f w =
    let P : List ℕ → Type 0 = λ s. value_at verb before s ≡ placed start after written in
    subst P e (value_starts verb before start h ∙ ap (value_by verb before start) f ∙ ap (placed start after) (sym w))

placed_after : (start after left : List ℕ) (written : Written) (v : Value) → placed start left written ≡ Ok (Some (v, after)) → left ≡ after
placed_after start after left (Ok w) v e =
    let here : Value × List ℕ = (w, left) in
    let there : Value × List ℕ = (v, after) in
    let p : here ≡ there = cc in
    ap (λ (x : Value × List ℕ). x.1) p
placed_after start after left (Err kind) v e = absurd (cc)

value_shorter : (verb : Verb) (before : ℕ) (start after : List ℕ) (v : Value) → value_at verb before start ≡ Ok (Some (v, after)) → length (skip_blanks after) < length start
value_shorter verb before [] after v e = absurd (cc)
value_shorter verb before (byte ∷ bytes) after v e =
    let start : List ℕ = byte ∷ bytes in
    let step : (o : Option Read) → first_word Spaced start ≡ o → value_by verb before start o ≡ Ok (Some (v, after)) → length (skip_blanks after) < length start = elim [
      | None ↦ λ f h. absurd (cc)
      | Some read ↦ λ f h.
          let p = placed_after start after read.1 (value_for verb before read.0) v h in
          subst (λ (left : List ℕ). length (skip_blanks left) < length start) p (word_shorter Spaced start read.1 read.0 f)
    ] in
    step (first_word Spaced start) refl e

-- each value takes a word
pub next_shorter : (verb : Verb) (before : ℕ) (rest after : List ℕ) (v : Value) → next_value verb before rest ≡ Ok (Some (v, after))
    → length (skip_blanks after) < length (skip_blanks rest)
next_shorter verb before rest after v e = value_shorter verb before (skip_blanks rest) after v e

-- one value more
pub write_more : (verb : Verb) (before : ℕ) (rest left after : List ℕ) (values : List Value) (v : Value) → Write verb before rest values left
    → next_value verb before left ≡ Ok (Some (v, after)) → Write verb before rest (values ++ v ∷ []) after
write_more verb before rest left after [] v h e = (after, subst (λ (s : List ℕ). next_value verb before s ≡ Ok (Some (v, after))) h e, refl)
write_more verb before rest left after (w ∷ ws) v h e = (h.0, h.1, write_more verb before h.0 left after ws v h.2 e)

pub all_more : {X : Type 0} (P : X → Type 0) (xs : List X) (x : X) → AllByRecursion P xs → P x → AllByRecursion P (xs ++ x ∷ [])
all_more P [] x h p = (p, tt)
all_more P (y ∷ ys) x h p = (h.0, all_more P ys x h.1 p)

pub stop_for : (P Q : Wrong → Type 0) (s : Stop) → ((w : Wrong) → P w → Q w) → IsStop s P → IsStop s Q
stop_for P Q (stop.Fault wrong) f h = f wrong h
stop_for P Q stop.Memory f h = tt
