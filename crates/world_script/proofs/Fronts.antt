-- The first lines of a text, one after another.
use Rattle.std.proofs.Common.{◌≡◌, ◌≢◌, ℕ, zero, suc, ◌+◌, ◌-◌, ◌<◌, ◌≤◌, Bool, true, false, not, List, [], ◌∷◌, ◌++◌, length, take, drop, cond, refl, sym, ap, subst, ◌∙◌, append_assoc, length-append, arith}
use Rattle.std.specs.List.{AllByRecursion, position_or_len}
use Rattle.std.proofs.lemmas.Bool.Decides.{nat_tests}
use Rattle.std.proofs.lemmas.List.{append-nil}
use Rattle.text_words.specs.Lines.{Begins, MayEnd, cr_lf, is_lf, lf, lines_of, text_end}
use Rattle.text_words.proofs.LinesLemmas.{first_and_rest}
use Rattle.world_script.specs.declared.limits.TheConstants.{MAX_SCRIPT_BYTES}
use Rattle.world_script.specs.Headings.{begins_world}
use Rattle.world_script.specs.Scripts.{IsDivided, IsPassed, body, first_lines, lines_before, schema_part}

abbrev NoLf : List ℕ → Type 0
NoLf line = AllByRecursion (λ byte. byte ≢ 10) line

none_first : (n : ℕ) → first_lines n [] ≡ []
unfolding first_lines
none_first zero = refl
none_first (suc n) = refl

no_lines : (text : List ℕ) → first_lines 0 text ≡ []
unfolding first_lines
no_lines [] = refl
no_lines (byte ∷ rest) = refl

-- a line without an LF goes over whole
lead : (n : ℕ) (line rest : List ℕ) → NoLf line → first_lines (suc n) (line ++ rest) ≡ line ++ first_lines (suc n) rest
unfolding first_lines
lead n [] rest h = refl
lead n (byte ∷ bytes) rest h =
    let here : byte ≢ 10 = h.0 in
    let other : is_lf byte ≡ false = grind (arith, nat_tests, here) in
    rw other (ap (λ (bs : List ℕ). byte ∷ bs) (lead n bytes rest h.1))

by_end : (n : ℕ) {line end rest : List ℕ} → NoLf line → MayEnd line end rest → first_lines (suc n) (line ++ (end ++ rest)) ≡ (line ++ end) ++ first_lines n rest
unfolding first_lines
by_end n h (lf line rest no_cr) = lead n line (10 ∷ rest) h ∙ sym (append_assoc line (10 ∷ []) (first_lines n rest))
by_end n h (cr_lf line rest) = lead n line (13 ∷ 10 ∷ rest) h ∙ sym (append_assoc line (13 ∷ 10 ∷ []) (first_lines n rest))
by_end n h (text_end line some) = lead n line [] h ∙ (sym (append-nil (line ++ [])) ∙ ap (λ (bs : List ℕ). (line ++ []) ++ bs) (sym (none_first n)))

first_more : (n : ℕ) (text line rest : List ℕ) (b : Begins text line rest) → first_lines (suc n) text ≡ (line ++ b.end) ++ first_lines n rest
first_more n text line rest b = ap (first_lines (suc n)) b.parts ∙ by_end n b.no_lf b.may_end

-- So many lines of a text are passed, of which none begins with `WORLD`, and this is left.
pub record Passed (text rest : List ℕ) (number : ℕ) : Type 0 where
  pub count : ℕ
  pub front : List ℕ
  pub parts : text ≡ front ++ rest
  pub firsts : (n : ℕ) → first_lines (count + n) text ≡ front ++ first_lines n rest
  pub lines : (n : ℕ) → drop (count + n) (lines_of text) ≡ drop n (lines_of rest)
  pub before : lines_before text ≡ count + lines_before rest
  pub number_is : number ≡ count + 1
  pub few : number + length rest ≤ length text + 1

pub none_passed : (text : List ℕ) → Passed text text 1
none_passed text = record {
  count = 0;
  front = [];
  parts = refl;
  firsts = λ n. ap (λ k. first_lines k text) (let e : 0 + n ≡ n = omega arith in e);
  lines = λ n. ap (λ k. drop k (lines_of text)) (let e : 0 + n ≡ n = omega arith in e);
  before = omega arith;
  number_is = omega arith;
  few = omega arith;
}

not_before : (line : List ℕ) (lines : List (List ℕ)) → begins_world line ≡ false → position_or_len begins_world (line ∷ lines) ≡ 1 + position_or_len begins_world lines
not_before line lines e = rw e refl

pub one_passed : (text rest after : List ℕ) (number : ℕ) → Passed text rest number → IsPassed rest after → Passed text after (number + 1)
one_passed text rest after number p q =
    let begins = q.begins in
    let split : lines_of rest ≡ q.line ∷ lines_of after = first_and_rest rest q.line after begins in
    let over = not_before q.line (lines_of after) q.other in
    let here : lines_before rest ≡ 1 + lines_before after = ap (position_or_len begins_world) split ∙ over in
    let piece = q.line ++ begins.end in
    let shorter = q.shorter in
    let few = p.few in
    let is = p.number_is in
    let before = p.before in
    let one : (n : ℕ) → p.count + 1 + n ≡ p.count + suc n = λ n. omega arith in
    record {
      count = p.count + 1;
      front = p.front ++ piece;
      parts = p.parts ∙ (ap (λ (bs : List ℕ). p.front ++ bs) (begins.parts ∙ sym (append_assoc q.line begins.end after)) ∙ sym (append_assoc p.front piece after));
      firsts = λ n.
          ap (λ k. first_lines k text) (one n)
          ∙ (p.firsts (suc n) ∙ (ap (λ (bs : List ℕ). p.front ++ bs) (first_more n rest q.line after begins) ∙ sym (append_assoc p.front piece (first_lines n after))));
      lines = λ n. ap (λ k. drop k (lines_of text)) (one n) ∙ (p.lines (suc n) ∙ ap (drop (suc n)) split);
      before = omega arith;
      number_is = omega arith;
      few = omega arith;
    }

front_taken : (front rest : List ℕ) → take (length (front ++ rest) - length rest) (front ++ rest) ≡ front
front_taken front rest =
    let n : length (front ++ rest) - length rest ≡ length front = (let l = length-append front rest in omega arith) in
    ap (λ k. take k (front ++ rest)) n ∙ taken front rest
  where
    taken : (front rest : List ℕ) → take (length front) (front ++ rest) ≡ front
    taken [] rest = refl
    taken (b ∷ bs) rest = ap (λ (xs : List ℕ). b ∷ xs) (taken bs rest)

pub divided : (text rest : List ℕ) (number : ℕ) → Passed text rest number → lines_before rest ≡ 0 → length text ≤ MAX_SCRIPT_BYTES → IsDivided text (take (length text - length rest) text) number rest
divided text rest number p here short =
    let before = p.before in
    let is = p.number_is in
    let few = p.few in
    let all : lines_before text ≡ p.count + 0 = omega arith in
    let front : schema_part text ≡ p.front =
    ap (λ k. first_lines k text) all ∙ (p.firsts 0 ∙ (ap (λ (bs : List ℕ). p.front ++ bs) (no_lines rest) ∙ append-nil p.front)) in
    record {
      front = subst (λ (t : List ℕ). take (length t - length rest) t ≡ p.front) (sym p.parts) (front_taken p.front rest) ∙ sym front;
      number = omega arith;
      rest = sym (ap (λ k. drop k (lines_of text)) all ∙ p.lines 0);
      few = omega arith;
    }

pub none_here : (text : List ℕ) → text ≡ [] → lines_before text ≡ 0
unfolding lines_of
none_here text e = ap lines_before e

pub world_here : (text line : List ℕ) (lines : List (List ℕ)) → lines_of text ≡ line ∷ lines → begins_world line ≡ true → lines_before text ≡ 0
world_here text line lines e world = ap (position_or_len begins_world) e ∙ rw world refl
