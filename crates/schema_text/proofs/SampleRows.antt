-- Rows of samples.
use Rattle.std.proofs.Common.{◌≡◌, ℕ, suc, ◌+◌, ◌<◌, List, [], ◌∷◌, ◌++◌, length, drop, get_or, refl, sym, ◌∙◌, ap, arith, append_assoc, drop-cons}
use Rattle.std.specs.Prelude.{Option, Some, None, option_map, option_and_then}
use Rattle.text_words.specs.declared.word.Word.{Word}
use Rattle.schema_text.specs.declared.form.SampleValue.{SampleValue}
use Rattle.schema_text.specs.Forms.{value_in, values_of}

-- the rest from a place on begins with what stands there
pub at_drop : {X : Type 0} (xs : List X) (i : ℕ) (x : X) → i < length xs → x ≡ get_or xs i x → drop i xs ≡ x ∷ drop (i + 1) xs
at_drop xs i x low is =
    let more : suc i ≡ i + 1 = omega arith in
    drop-cons xs i x low ∙ ap (λ y. y ∷ drop (suc i) xs) (sym is) ∙ ap (λ n. x ∷ drop n xs) more

abbrev pub with_front : List SampleValue → Option (List SampleValue) → Option (List SampleValue)
with_front front read = option_map (λ more. front ++ more) read

regroup : (front : List SampleValue) (v : SampleValue) (o : Option (List SampleValue)) → with_front front (option_map (λ values. v ∷ values) o) ≡ with_front (front ++ v ∷ []) o
regroup front v None = refl
regroup front v (Some xs) = ap Some (sym (append_assoc front (v ∷ []) xs))

-- a word more
pub values_next : (ws : List Word) (i : ℕ) (w : Word) (front : List SampleValue) (v : SampleValue) → i < length ws → w ≡ get_or ws i w → value_in w ≡ Some v
    → values_of ws ≡ with_front front (values_of (drop i ws)) → values_of ws ≡ with_front (front ++ v ∷ []) (values_of (drop (i + 1) ws))
values_next ws i w front v low is known h =
    h ∙ ap (λ l. with_front front (values_of l)) (at_drop ws i w low is)
    ∙ ap (λ o. with_front front (option_and_then (λ value. option_map (λ values. value ∷ values) (values_of (drop (i + 1) ws))) o)) known
    ∙ regroup front v (values_of (drop (i + 1) ws))
