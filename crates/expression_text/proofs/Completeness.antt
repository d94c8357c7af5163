-- An expression is read to its end, and what is read is its tree.
use Rattle.std.proofs.Common.{◌≡◌, ℕ, ◌<◌, ◌^◌, pos, true, List, [], ◌∷◌, ◌++◌, refl, ap, ◌∙◌, arith, nat_lt}
use Rattle.std.specs.Prelude.{Some, None, cond}
use Rattle.std.proofs.lemmas.Bool.Decides.{nat_tests}
use Rattle.row_check.specs.declared.cmp.Cmp.{Cmp}
use Rattle.row_check.specs.declared.term.Term.{Term}
use Rattle.expression_text.specs.declared.token.Token.{Token}
use Rattle.expression_text.specs.declared.token.Token.TheVariants as token
use Rattle.expression_text.specs.Numbers.{small_number}
use Rattle.row_check.specs.Trees.{Tree, Comparison}
use Rattle.expression_text.specs.Grammar.{Level, Disjunction, Conjunction, Operand, IsTerm, a_column, an_integer, a_text, a_flag, a_length, AreColumns, one_column, column_more, Parses, either, conjunction, both, operand, negation, brackets, comparison, absence, check_one, check_all}
use Rattle.expression_text.specs.Machine.{Begun, After_sign, After_number, After_comma, After_argument, Finished, Frame, Bracket, Before_not, Before_and, Before_or, State, number_read, settled, complete, join, close_joined, before_or, run, step, outcome, whole, parsed}

pub run-append : (c : List ℕ → ℕ) (state : State) (ts us : List Token) → run c state (ts ++ us) ≡ run c (run c state ts) us
run-append c state [] us = refl
run-append c state (t ∷ ts) us = run-append c (step c state.0 state.1 t) ts us

-- neither NOT nor AND stands directly before
abbrev pub IsReady : List Frame → Type 0
IsReady (Before_not ∷ frames) = ⊥
IsReady (Before_and left ∷ frames) = ⊥
IsReady frames = Unit {0}

-- nothing stands open, or a parenthesis directly before
abbrev pub IsBase : List Frame → Type 0
IsBase [] = Unit {0}
IsBase (Bracket ∷ frames) = Unit {0}
IsBase frames = ⊥

complete_ready : (e : Tree) (frames : List Frame) → IsReady frames → complete e frames ≡ (Finished e, frames)
complete_ready e [] h = refl
complete_ready e (Bracket ∷ frames) h = refl
complete_ready e (Before_not ∷ frames) h = absurd h
complete_ready e (Before_and left ∷ frames) h = absurd h
complete_ready e (Before_or left ∷ frames) h = refl

base_ready : (frames : List Frame) → IsBase frames → IsReady frames
base_ready [] h = tt
base_ready (Bracket ∷ frames) h = tt
base_ready (Before_not ∷ frames) h = absurd h
base_ready (Before_and left ∷ frames) h = absurd h
base_ready (Before_or left ∷ frames) h = absurd h

join_base : (e : Tree) (frames : List Frame) → IsBase frames → join e frames ≡ (e, frames)
join_base e [] h = refl
join_base e (Bracket ∷ frames) h = refl
join_base e (Before_not ∷ frames) h = absurd h
join_base e (Before_and left ∷ frames) h = absurd h
join_base e (Before_or left ∷ frames) h = absurd h

left_read : {c : List ℕ → ℕ} {left : List Token} {a : Term} → IsTerm c left a → (cmp : Cmp) (right : List Token) (frames : List Frame)
    → run c (Begun, frames) (left ++ token.Sign cmp ∷ right) ≡ run c (After_sign a cmp, frames) right
left_read (a_column name) cmp right frames = refl
left_read (an_integer n) cmp right frames = refl
left_read (a_text bytes) cmp right frames = refl
left_read (a_flag flag) cmp right frames = refl
left_read (a_length name) cmp right frames = refl

right_read : {c : List ℕ → ℕ} {right : List Token} {b : Term} → IsTerm c right b → (a : Term) (cmp : Cmp) (frames : List Frame)
    → run c (After_sign a cmp, frames) right ≡ complete (Comparison a cmp b) frames
right_read (a_column name) a cmp frames = refl
right_read (an_integer n) a cmp frames = refl
right_read (a_text bytes) a cmp frames = refl
right_read (a_flag flag) a cmp frames = refl
right_read (a_length name) a cmp frames = refl

number_fits : (n : ℕ) → n < 2 ^ 16 → small_number (pos n) ≡ Some n
number_fits n low = let e : nat_lt n (2 ^ 16) ≡ true = grind (arith, nat_tests) in ap (λ b. cond b (Some n) None) e

check_begun : (c : List ℕ → ℕ) (n : ℕ) → n < 2 ^ 16 → (ts : List Token) (frames : List Frame)
    → run c (Begun, frames) (token.Native ∷ token.Integer (pos n) ∷ ts) ≡ run c (After_number n, frames) ts
check_begun c n low ts frames = ap (λ number. run c (settled (number_read number) frames) ts) (number_fits n low)

columns_read : {c : List ℕ → ℕ} {ts : List Token} {columns : List ℕ} → AreColumns c ts columns → (n : ℕ) (frames : List Frame)
    → run c (After_comma n [], frames) ts ≡ (After_argument n columns, frames)
columns_read (one_column name) n frames = refl
columns_read {c} (column_more {tokens = ts} {columns = columns} more name) n frames =
    run-append c (After_comma n [], frames) ts (token.Comma ∷ token.Column name ∷ [])
    ∙ ap (λ (state : State). run c state (token.Comma ∷ token.Column name ∷ [])) (columns_read more n frames)

-- what reading an expression of a level leaves
abbrev pub Reads : (List ℕ → ℕ) → Level → List Token → Tree → Type 0
Reads c Operand ts e = (frames : List Frame) → run c (Begun, frames) ts ≡ complete e frames
Reads c Conjunction ts e = (frames : List Frame) → IsReady frames → run c (Begun, frames) ts ≡ (Finished e, frames)
Reads c Disjunction ts e = (frames : List Frame) → IsBase frames
    → (last : Tree) × (rest : List Frame) × (run c (Begun, frames) ts ≡ (Finished last, rest)) × (join last rest ≡ (e, frames))

pub reads : {c : List ℕ → ℕ} {level : Level} {ts : List Token} {e : Tree} → Parses c level ts e → Reads c level ts e
reads {c} (either {left = left} {right = right} {a = a} {b = b} p q) = λ frames base.
    let h = reads p frames base in (
      b,
      Before_or a ∷ frames,
      run-append c (Begun, frames) left (token.Or ∷ right)
          ∙ (ap (λ (state : State). run c state (token.Or ∷ right)) h.2
          ∙ (ap (λ (joined : Tree × List Frame). run c (before_or joined) right) h.3
          ∙ reads q (Before_or a ∷ frames) tt)),
      refl,
    )
reads (conjunction {a = a} p) = λ frames base. (a, frames, reads p frames (base_ready frames base), join_base a frames base)
reads {c} (both {left = left} {right = right} {a = a} p q) = λ frames ready.
    run-append c (Begun, frames) left (token.And ∷ right)
    ∙ (ap (λ (state : State). run c state (token.And ∷ right)) (reads p frames ready)
    ∙ reads q (Before_and a ∷ frames))
reads (operand {a = a} p) = λ frames ready. reads p frames ∙ complete_ready a frames ready
reads (negation p) = λ frames. reads p (Before_not ∷ frames)
reads {c} (brackets {tokens = ts} p) = λ frames.
    let h = reads p (Bracket ∷ frames) tt in
    run-append c (Begun, Bracket ∷ frames) ts (token.Close ∷ [])
    ∙ (ap (λ (state : State). run c state (token.Close ∷ [])) h.2 ∙ ap close_joined h.3)
reads (comparison {right = right} {a = a} p cmp q) = λ frames. left_read p cmp right frames ∙ right_read q a cmp frames
reads (absence name) = λ frames. refl
reads {c} (check_one n low name) = λ frames. check_begun c n low (token.Column name ∷ []) frames
reads {c} (check_all n low {tokens = ts} {columns = columns} more) = λ frames.
    check_begun c n low (token.Open ∷ (ts ++ token.Close ∷ [])) frames
    ∙ (run-append c (After_comma n [], frames) ts (token.Close ∷ [])
    ∙ ap (λ (state : State). run c state (token.Close ∷ [])) (columns_read more n frames))

-- an expression is read, and as its tree
pub parsed-Parses : {c : List ℕ → ℕ} {ts : List Token} {e : Tree} → Parses c Disjunction ts e → parsed c ts ≡ Some e
parsed-Parses p = let h = reads p [] tt in ap (λ (last : State). outcome last.0 last.1) h.2 ∙ ap whole h.3
