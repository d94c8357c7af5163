-- Signing by a key, and how long what is signed is.
use Rattle.std.proofs.Common.{◌≡◌, ◌≢◌, ℕ, ◌+◌, ◌-◌, ◌≤◌, Bool, true, false, List, ◌++◌, length, take, drop, refl, sym, ◌∙◌, ap, arith, length-append}
use Rattle.std.specs.Prelude.{not, if◌then◌else◌, ◌==◌}
use Rattle.std.specs.Str.{bytes_eq}
use Rattle.std.proofs.lemmas.Slice.Eq.{bytes_eq-Decides}
use Rattle.std.proofs.lemmas.Bool.{true≢false}
use Rattle.std.proofs.Math.Seq.{take-append_seam}
use Rattle.std.proofs.lemmas.List.{append_cancel_left, take-append-drop}
use Rattle.update_model.specs.Form.{ots_length, signature_length, tree_height}
use Rattle.update_model.specs.declared.author_key.AuthorKey.{AuthorKey}

at_most : (b : Bool) (x y n : ℕ) → x ≤ n → y ≤ n → (if b then x else y) ≤ n
at_most true x y n p q = p
at_most false x y n p q = q

pub short_signature : (key : AuthorKey) → signature_length key ≤ 9004
short_signature key =
    let ots : ots_length key.ots ≤ 8516 = at_most (key.ots == 1) _ _ 8516 (omega arith) (at_most (key.ots == 2) _ _ 8516 (omega arith) (at_most (key.ots == 3) _ _ 8516 (omega arith) (omega arith))) in
    let tall : tree_height key.lms ≤ 15 = at_most (key.lms == 5) _ _ 15 (omega arith) (at_most (key.lms == 6) _ _ 15 (omega arith) (omega arith)) in
    omega (arith, ots, tall)

-- the parts of what vouches for a key
pub same_parts : (low payload sig front rest : List ℕ) → length low ≡ 56 → front ≡ take (length payload - 56) payload → rest ≡ drop (length payload - 56) payload → payload ≡ sig ++ low
    → (front ≡ sig) × (rest ≡ low)
same_parts low payload sig front rest long front_is rest_is is =
    let n : length payload - 56 ≡ length sig = omega (arith, length-append sig low, ap length is, long) in
    let first : front ≡ sig = front_is ∙ ap (λ (k : ℕ). take k payload) n ∙ ap (take (length sig)) is ∙ take-append_seam sig low in
    let whole : sig ++ rest ≡ sig ++ low =
    ap (λ (l : List ℕ). l ++ rest) (sym first) ∙ ap (λ (l : List ℕ). l ++ rest) front_is ∙ ap (λ (l : List ℕ). take (length payload - 56) payload ++ l) rest_is ∙ take-append-drop (length payload - 56) payload ∙ is in
    (first, append_cancel_left sig rest low whole)

-- what a test of bytes says
pub told_same : (r : Bool) (a b : List ℕ) → r ≡ not (bytes_eq a b) → r ≡ false → a ≡ b
told_same r a b is e = (bytes_eq-Decides a b).0 (by (bytes_eq a b) (sym is ∙ e))
  where
    by : (x : Bool) → not x ≡ false → x ≡ true
    by true f = refl
    by false f = absurd (true≢false f)

pub told_other : (r : Bool) (a b : List ℕ) → r ≡ not (bytes_eq a b) → r ≡ true → a ≢ b
told_other r a b is e same = true≢false (sym e ∙ is ∙ ap not ((bytes_eq-Decides a b).1 same))
