-- A place and a count of parentheses tell whether what was read is whole.
use Rattle.std.proofs.Common.{◌≡◌, ℕ, zero, suc, Bool, true, List, [], ◌∷◌, refl, ap, ◌∙◌, sym, add-one, ◌≤◌, length, drop, IsTrue}
use Rattle.std.specs.Prelude.{Option, Some, None, is_some}
use Rattle.std.proofs.lemmas.List.{drop_all}
use Rattle.row_check.specs.declared.cmp.Cmp.{Cmp}
use Rattle.row_check.specs.declared.term.Term.{Term}
use Rattle.expression_text.specs.declared.place.Place.{Place}
use Rattle.expression_text.specs.declared.place.Place.TheVariants as place
use Rattle.expression_text.specs.declared.place.Position.{Position}
use Rattle.expression_text.specs.declared.token.Token.{Token}
use Rattle.expression_text.specs.declared.token.Token.TheVariants as token
use Rattle.expression_text.specs.Numbers.{small_number}
use Rattle.row_check.specs.Trees.{Tree, Negation}
use Rattle.expression_text.specs.Grammar.{Disjunction, Parses, IsExpression}
use Rattle.expression_text.specs.Machine.{Reading, Begun, After_len, After_column, After_term, After_sign, After_sign_len, After_is, After_native, After_number, After_comma, After_argument, Finished, Refused, Frame, Bracket, Before_not, Before_and, Before_or, State, read_after_sign, number_read, read_after_native, read_more, settled, complete, join, close, step_begun, step_finished, run, step, outcome, whole, parsed}
use Rattle.expression_text.specs.Places.{next_after_sign, number_place, next_place, closed, after, after_all, is_end, is_read}
use Rattle.expression_text.proofs.Completeness.{IsReady, IsBase, parsed-Parses}
use Rattle.expression_text.proofs.Soundness.{Parses-parsed}

-- the place where a reading is
abbrev place_of : Reading → Place
place_of Begun = place.Begun
place_of After_len = place.AfterLen
place_of (After_column column) = place.AfterColumn
place_of (After_term left) = place.AfterTerm
place_of (After_sign left cmp) = place.AfterSign
place_of (After_sign_len left cmp) = place.AfterSignLen
place_of (After_is column) = place.AfterIs
place_of After_native = place.AfterNative
place_of (After_number number) = place.AfterNumber
place_of (After_comma number columns) = place.AfterComma
place_of (After_argument number columns) = place.AfterArgument
place_of (Finished tree) = place.Finished
place_of Refused = place.Refused

-- how many parentheses are open
abbrev opens : List Frame → ℕ
opens [] = zero
opens (Bracket ∷ frames) = suc (opens frames)
opens (Before_not ∷ frames) = opens frames
opens (Before_and left ∷ frames) = opens frames
opens (Before_or left ∷ frames) = opens frames

abbrev position_of : State → Position
position_of state = record { place = place_of state.0; depth = opens state.1 }

-- OR stands after a parenthesis or nothing, and AND after these or an OR
abbrev IsFormed : List Frame → Type 0
IsFormed [] = Unit {0}
IsFormed (Bracket ∷ frames) = IsFormed frames
IsFormed (Before_not ∷ frames) = IsFormed frames
IsFormed (Before_and left ∷ frames) = IsReady frames × IsFormed frames
IsFormed (Before_or left ∷ frames) = IsBase frames × IsFormed frames

-- a whole operand was joined with what AND stood before it
abbrev IsKept : Reading → List Frame → Type 0
IsKept (Finished tree) frames = IsReady frames × IsFormed frames
IsKept r frames = IsFormed frames

abbrev IsKeptBy : State → Type 0
IsKeptBy state = IsKept state.0 state.1

-- completing an operand moves no parenthesis
complete_position : (e : Tree) (frames : List Frame) → position_of (complete e frames) ≡ record { place = place.Finished; depth = opens frames }
complete_position e [] = refl
complete_position e (Bracket ∷ frames) = refl
complete_position e (Before_not ∷ frames) = complete_position (Negation e) frames
complete_position e (Before_and left ∷ frames) = refl
complete_position e (Before_or left ∷ frames) = refl

complete_kept : (e : Tree) (frames : List Frame) → IsFormed frames → IsKeptBy (complete e frames)
complete_kept e [] h = (tt, tt)
complete_kept e (Bracket ∷ frames) h = (tt, h)
complete_kept e (Before_not ∷ frames) h = complete_kept (Negation e) frames h
complete_kept e (Before_and left ∷ frames) h = h
complete_kept e (Before_or left ∷ frames) h = (tt, h)

settled_position : (r : Reading) (frames : List Frame) → position_of (settled r frames) ≡ record { place = place_of r; depth = opens frames }
settled_position (Finished e) frames = complete_position e frames
settled_position r frames = refl

settled_kept : (r : Reading) (frames : List Frame) → IsFormed frames → IsKeptBy (settled r frames)
settled_kept (Finished e) frames h = complete_kept e frames h
settled_kept r frames h = h

number_same : (n : Option ℕ) → place_of (number_read n) ≡ number_place n
number_same (Some n) = refl
number_same None = refl

-- The place after a token more of an operand is that of what is read. A NOT and what stands about an operand are
-- read apart.
more_begun : (c : List ℕ → ℕ) (frames : List Frame) (t : Token) → position_of (step_begun c frames t) ≡ after place.Begun (opens frames) t
more_begun c frames (token.Column name) = refl
more_begun c frames token.Open = ap (λ depth. record { place = place.Begun; depth = depth }) (sym (add-one (opens frames)))
more_begun c frames t = refl

more_after_sign : (c : List ℕ → ℕ) (left : Term) (cmp : Cmp) (t : Token) → place_of (read_after_sign c left cmp t) ≡ next_after_sign t
more_after_sign c left cmp token.Len = refl
more_after_sign c left cmp t = refl

more_after_native : (c : List ℕ → ℕ) (t : Token) → place_of (read_after_native t) ≡ next_place place.AfterNative t
more_after_native c (token.Integer n) = number_same (small_number n)
more_after_native c t = refl

-- what stands open, and so the place, after a token more of an operand that is begun and not whole
abbrev Same : (List ℕ → ℕ) → Reading → Token → Type 0
Same c r t = place_of (read_more c r t) ≡ next_place (place_of r) t

same_after_len : (c : List ℕ → ℕ) (t : Token) → Same c After_len t
same_after_len c (token.Column name) = refl
same_after_len c t = refl

same_after_column : (c : List ℕ → ℕ) (column : ℕ) (t : Token) → Same c (After_column column) t
same_after_column c column token.Is = refl
same_after_column c column t = refl

same_after_term : (c : List ℕ → ℕ) (left : Term) (t : Token) → Same c (After_term left) t
same_after_term c left token.Is = refl
same_after_term c left t = refl

same_after_sign_len : (c : List ℕ → ℕ) (left : Term) (cmp : Cmp) (t : Token) → Same c (After_sign_len left cmp) t
same_after_sign_len c left cmp (token.Column name) = refl
same_after_sign_len c left cmp t = refl

same_after_is : (c : List ℕ → ℕ) (column : ℕ) (t : Token) → Same c (After_is column) t
same_after_is c column token.Null = refl
same_after_is c column t = refl

same_after_number : (c : List ℕ → ℕ) (number : ℕ) (t : Token) → Same c (After_number number) t
same_after_number c number token.Open = refl
same_after_number c number t = refl

same_after_comma : (c : List ℕ → ℕ) (number : ℕ) (columns : List ℕ) (t : Token) → Same c (After_comma number columns) t
same_after_comma c number columns (token.Column name) = refl
same_after_comma c number columns t = refl

same_after_argument : (c : List ℕ → ℕ) (number : ℕ) (columns : List ℕ) (t : Token) → Same c (After_argument number columns) t
same_after_argument c number columns token.Comma = refl
same_after_argument c number columns t = refl

-- a whole operand, with what stands before an OR
join_opens : (e : Tree) (frames : List Frame) → opens (join e frames).1 ≡ opens frames
join_opens e [] = refl
join_opens e (Bracket ∷ frames) = refl
join_opens e (Before_not ∷ frames) = refl
join_opens e (Before_and left ∷ frames) = refl
join_opens e (Before_or left ∷ frames) = refl

join_base : (e : Tree) (frames : List Frame) → IsReady frames → IsFormed frames → IsBase (join e frames).1 × IsFormed (join e frames).1
join_base e [] r f = (tt, tt)
join_base e (Bracket ∷ frames) r f = (tt, f)
join_base e (Before_not ∷ frames) r f = absurd r
join_base e (Before_and left ∷ frames) r f = absurd r
join_base e (Before_or left ∷ frames) r f = f

close_position : (e : Tree) (frames : List Frame) → IsBase frames → position_of (close e frames) ≡ closed (opens frames)
close_position e [] b = refl
close_position e (Bracket ∷ frames) b = complete_position e frames
close_position e (Before_not ∷ frames) b = absurd b
close_position e (Before_and left ∷ frames) b = absurd b
close_position e (Before_or left ∷ frames) b = absurd b

close_kept : (e : Tree) (frames : List Frame) → IsFormed frames → IsKeptBy (close e frames)
close_kept e [] f = f
close_kept e (Bracket ∷ frames) f = complete_kept e frames f
close_kept e (Before_not ∷ frames) f = f
close_kept e (Before_and left ∷ frames) f = f
close_kept e (Before_or left ∷ frames) f = f

more_finished : (e : Tree) (frames : List Frame) → IsReady frames → IsFormed frames → (t : Token)
    → position_of (step_finished e frames t) ≡ after place.Finished (opens frames) t
more_finished e frames r f token.And = refl
more_finished e frames r f token.Or = ap (λ depth. record { place = place.Begun; depth = depth }) (join_opens e frames)
more_finished e frames r f token.Close = let j = join e frames in close_position j.0 j.1 (join_base e frames r f).0 ∙ ap closed (join_opens e frames)
more_finished e frames r f t = refl

finished_kept : (e : Tree) (frames : List Frame) → IsReady frames → IsFormed frames → (t : Token) → IsKeptBy (step_finished e frames t)
finished_kept e frames r f token.And = (r, f)
finished_kept e frames r f token.Or = join_base e frames r f
finished_kept e frames r f token.Close = let j = join e frames in close_kept j.0 j.1 (join_base e frames r f).1
finished_kept e frames r f t = f

begun_kept : (c : List ℕ → ℕ) (frames : List Frame) → IsFormed frames → (t : Token) → IsKeptBy (step_begun c frames t)
begun_kept c frames f token.Not = f
begun_kept c frames f t = f

settled_same : (c : List ℕ → ℕ) (r : Reading) (frames : List Frame) (t : Token) → Same c r t
    → position_of (settled (read_more c r t) frames) ≡ record { place = next_place (place_of r) t; depth = opens frames }
settled_same c r frames t e = settled_position (read_more c r t) frames ∙ ap (λ p. record { place = p; depth = opens frames }) e

-- the place and the count after a token are those of what is read
step_position : (c : List ℕ → ℕ) (r : Reading) (frames : List Frame) → IsKept r frames → (t : Token)
    → position_of (step c r frames t) ≡ after (place_of r) (opens frames) t
step_position c Begun frames k t = more_begun c frames t
step_position c (Finished e) frames k t = more_finished e frames k.0 k.1 t
step_position c After_len frames k t = settled_same c After_len frames t (same_after_len c t)
step_position c (After_column column) frames k t = settled_same c (After_column column) frames t (same_after_column c column t)
step_position c (After_term left) frames k t = settled_same c (After_term left) frames t (same_after_term c left t)
step_position c (After_sign left cmp) frames k t = settled_same c (After_sign left cmp) frames t (more_after_sign c left cmp t)
step_position c (After_sign_len left cmp) frames k t = settled_same c (After_sign_len left cmp) frames t (same_after_sign_len c left cmp t)
step_position c (After_is column) frames k t = settled_same c (After_is column) frames t (same_after_is c column t)
step_position c After_native frames k t = settled_same c After_native frames t (more_after_native c t)
step_position c (After_number number) frames k t = settled_same c (After_number number) frames t (same_after_number c number t)
step_position c (After_comma number columns) frames k t = settled_same c (After_comma number columns) frames t (same_after_comma c number columns t)
step_position c (After_argument number columns) frames k t = settled_same c (After_argument number columns) frames t (same_after_argument c number columns t)
step_position c Refused frames k t = refl

step_kept : (c : List ℕ → ℕ) (r : Reading) (frames : List Frame) → IsKept r frames → (t : Token) → IsKeptBy (step c r frames t)
step_kept c Begun frames k t = begun_kept c frames k t
step_kept c (Finished e) frames k t = finished_kept e frames k.0 k.1 t
step_kept c After_len frames k t = settled_kept (read_more c After_len t) frames k
step_kept c (After_column column) frames k t = settled_kept (read_more c (After_column column) t) frames k
step_kept c (After_term left) frames k t = settled_kept (read_more c (After_term left) t) frames k
step_kept c (After_sign left cmp) frames k t = settled_kept (read_more c (After_sign left cmp) t) frames k
step_kept c (After_sign_len left cmp) frames k t = settled_kept (read_more c (After_sign_len left cmp) t) frames k
step_kept c (After_is column) frames k t = settled_kept (read_more c (After_is column) t) frames k
step_kept c After_native frames k t = settled_kept (read_more c After_native t) frames k
step_kept c (After_number number) frames k t = settled_kept (read_more c (After_number number) t) frames k
step_kept c (After_comma number columns) frames k t = settled_kept (read_more c (After_comma number columns) t) frames k
step_kept c (After_argument number columns) frames k t = settled_kept (read_more c (After_argument number columns) t) frames k
step_kept c Refused frames k t = k

run_position : (c : List ℕ → ℕ) (state : State) → IsKeptBy state → (ts : List Token)
    → (position_of (run c state ts) ≡ after_all (position_of state) ts) × IsKeptBy (run c state ts)
run_position c state k [] = (refl, k)
run_position c state k (t ∷ ts) =
    let next = step c state.0 state.1 t in
    let rest = run_position c next (step_kept c state.0 state.1 k t) ts in
    (rest.0 ∙ ap (λ p. after_all p ts) (step_position c state.0 state.1 k t), rest.1)

-- what is whole is told by the place and the count
base_end : (e : Tree) (frames : List Frame) → IsBase frames → is_some (whole (e, frames)) ≡ is_end place.Finished (opens frames)
base_end e [] b = refl
base_end e (Bracket ∷ frames) b = refl
base_end e (Before_not ∷ frames) b = absurd b
base_end e (Before_and left ∷ frames) b = absurd b
base_end e (Before_or left ∷ frames) b = absurd b

outcome_end : (r : Reading) (frames : List Frame) → IsKept r frames → is_some (outcome r frames) ≡ is_end (place_of r) (opens frames)
outcome_end (Finished e) frames k =
    let j = join e frames in
    base_end j.0 j.1 (join_base e frames k.0 k.1).0 ∙ ap (λ n. is_end place.Finished n) (join_opens e frames)
outcome_end r frames k = refl

-- by whatever columns, what is read to its end is told
pub parsed_is_read : (c : List ℕ → ℕ) (ts : List Token) → is_some (parsed c ts) ≡ is_read ts
parsed_is_read c ts =
    let last = run c (Begun, []) ts in
    let h = run_position c (Begun, []) tt ts in
    outcome_end last.0 last.1 h.1 ∙ ap (λ (p : Position). is_end p.place p.depth) h.0

some_of : {A : Type 0} (o : Option A) → is_some o ≡ true → (x : A) × (o ≡ Some x)
some_of (Some x) e = (x, refl)
some_of None e = absurd cc

-- the test is exact
pub read-IsExpression : (ts : List Token) → is_read ts ≡ true → IsExpression ts
read-IsExpression ts e = let c : List ℕ → ℕ = λ name. 0 in let some = some_of (parsed c ts) (parsed_is_read c ts ∙ e) in (some.0, Parses-parsed c ts some.0 some.1)

pub Parses-read : {c : List ℕ → ℕ} {ts : List Token} {e : Tree} → Parses c Disjunction ts e → is_read ts ≡ true
Parses-read {c} {ts} p = sym (parsed_is_read c ts) ∙ ap is_some (parsed-Parses p)

-- what is an expression over some columns is read over any others
pub parsed_again : (c : List ℕ → ℕ) (ts : List Token) → IsExpression ts → (e : Tree) × (parsed c ts ≡ Some e)
parsed_again c ts x = some_of (parsed c ts) (parsed_is_read c ts ∙ Parses-read x.1)

-- the reading at the end of the tokens
pub end_reads : (ts : List Token) (i : ℕ) (start p : Position) (r : Bool) → start ≡ record { place = place.Begun; depth = 0 } → length ts ≤ i
    → after_all p (drop i ts) ≡ after_all start ts → r ≡ is_end p.place p.depth → (IsTrue r → IsExpression ts) × (IsExpression ts → IsTrue r)
end_reads ts i start p r begins past same is =
    let last : after_all p (drop i ts) ≡ p = ap (λ (rest : List Token). after_all p rest) (drop_all i ts past) in
    let read : r ≡ is_read ts = is ∙ ap (λ (q : Position). is_end q.place q.depth) (sym last ∙ (same ∙ ap (λ q. after_all q ts) begins)) in
    ((λ h. read-IsExpression ts (sym read ∙ h)), (λ x. read ∙ Parses-read x.1))
