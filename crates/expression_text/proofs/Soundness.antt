-- What is read to its end is an expression, and its tree is what was read.
use Rattle.std.proofs.Common.{◌≡◌, ℕ, ◌<◌, ◌^◌, ℤ, pos, negsuc, Bool, true, false, List, [], ◌∷◌, ◌++◌, refl, ap, ◌∙◌, sym, subst, arith, nat_lt, append_assoc, append-nil}
use Rattle.std.specs.Prelude.{Option, Some, None, cond}
use Rattle.std.proofs.lemmas.Bool.Decides.{nat_tests}
use Rattle.row_check.specs.declared.cmp.Cmp.{Cmp}
use Rattle.row_check.specs.declared.term.Term.{Term}
use Rattle.expression_text.specs.declared.token.Token.{Token}
use Rattle.expression_text.specs.declared.token.Token.TheVariants as token
use Rattle.expression_text.specs.Numbers.{small_number}
use Rattle.row_check.specs.Trees.{Tree, Negation}
use Rattle.expression_text.specs.Grammar.{Level, Disjunction, Conjunction, Operand, IsTerm, a_column, an_integer, a_text, a_flag, a_length, AreColumns, one_column, column_more, Parses, either, conjunction, both, operand, negation, brackets, comparison, absence, check_one, check_all}
use Rattle.expression_text.specs.Machine.{Reading, Begun, After_len, After_column, After_term, After_sign, After_sign_len, After_is, After_native, After_number, After_comma, After_argument, Finished, Refused, Frame, Bracket, Before_not, Before_and, Before_or, State, side_of, left_side, right_side, read_begun, read_after_len, read_after_column, read_after_term, read_after_sign, read_after_sign_len, read_after_is, number_read, read_after_native, read_after_number, read_after_comma, read_after_argument, read_more, settled, complete, join, close, close_joined, before_or, step_begun, step_finished, run, step, outcome, whole, parsed}

-- the tokens that make a stack
data Stands (c : List ℕ → ℕ) : List Frame → List Token → Type 0 where
  bottom : Stands c [] []
  bracket : {frames : List Frame} {ts : List Token} → Stands c frames ts → Stands c (Bracket ∷ frames) (ts ++ token.Open ∷ [])
  before_negation : {frames : List Frame} {ts : List Token} → Stands c frames ts → Stands c (Before_not ∷ frames) (ts ++ token.Not ∷ [])
  before_right : {frames : List Frame} {ts left : List Token} {a : Tree} → Stands c frames ts → Parses c Conjunction left a
      → Stands c (Before_and a ∷ frames) (ts ++ (left ++ token.And ∷ []))
  before_other : {frames : List Frame} {ts left : List Token} {a : Tree} → Stands c frames ts → Parses c Disjunction left a
      → Stands c (Before_or a ∷ frames) (ts ++ (left ++ token.Or ∷ []))

-- The tokens of what has been read of an operand. A whole one may be joined to others, up to the level.
data Begins (c : List ℕ → ℕ) (level : Level) : Reading → List Token → Type 0 where
  begun : Begins c level Begun []
  after_len : Begins c level After_len (token.Len ∷ [])
  after_column : (name : List ℕ) → Begins c level (After_column (c name)) (token.Column name ∷ [])
  after_term : {ts : List Token} {a : Term} → IsTerm c ts a → Begins c level (After_term a) ts
  after_sign : {ts : List Token} {a : Term} → IsTerm c ts a → (cmp : Cmp) → Begins c level (After_sign a cmp) (ts ++ token.Sign cmp ∷ [])
  after_sign_len : {ts : List Token} {a : Term} → IsTerm c ts a → (cmp : Cmp) → Begins c level (After_sign_len a cmp) (ts ++ token.Sign cmp ∷ token.Len ∷ [])
  after_is : (name : List ℕ) → Begins c level (After_is (c name)) (token.Column name ∷ token.Is ∷ [])
  after_native : Begins c level After_native (token.Native ∷ [])
  after_number : (n : ℕ) → n < 2 ^ 16 → Begins c level (After_number n) (token.Native ∷ token.Integer (pos n) ∷ [])
  after_open : (n : ℕ) → n < 2 ^ 16 → Begins c level (After_comma n []) (token.Native ∷ token.Integer (pos n) ∷ token.Open ∷ [])
  after_comma : (n : ℕ) → n < 2 ^ 16 → {ts : List Token} {columns : List ℕ} → AreColumns c ts columns
      → Begins c level (After_comma n columns) (token.Native ∷ token.Integer (pos n) ∷ token.Open ∷ (ts ++ token.Comma ∷ []))
  after_argument : (n : ℕ) → n < 2 ^ 16 → {ts : List Token} {columns : List ℕ} → AreColumns c ts columns
      → Begins c level (After_argument n columns) (token.Native ∷ token.Integer (pos n) ∷ token.Open ∷ ts)
  finished : {ts : List Token} {a : Tree} → Parses c level ts a → Begins c level (Finished a) ts
  refused : {ts : List Token} → Begins c level Refused ts

one_side : (c : List ℕ → ℕ) (t : Token) → Begins c Operand (left_side (side_of c t)) (t ∷ [])
one_side c (token.Column name) = after_term (a_column name)
one_side c (token.Integer n) = after_term (an_integer n)
one_side c (token.Text bytes) = after_term (a_text bytes)
one_side c (token.Flag flag) = after_term (a_flag flag)
one_side c other = refused

more_begun : (c : List ℕ → ℕ) (t : Token) → Begins c Operand (read_begun c t) (t ∷ [])
more_begun c (token.Column name) = after_column name
more_begun c token.Len = after_len
more_begun c token.Native = after_native
more_begun c other = one_side c other

more_after_len : (c : List ℕ → ℕ) (t : Token) → Begins c Operand (read_after_len c t) (token.Len ∷ t ∷ [])
more_after_len c (token.Column name) = after_term (a_length name)
more_after_len c other = refused

more_after_column : (c : List ℕ → ℕ) (name : List ℕ) (t : Token) → Begins c Operand (read_after_column (c name) t) (token.Column name ∷ t ∷ [])
more_after_column c name (token.Sign cmp) = after_sign (a_column name) cmp
more_after_column c name token.Is = after_is name
more_after_column c name other = refused

more_after_term : {c : List ℕ → ℕ} {ts : List Token} {a : Term} → IsTerm c ts a → (t : Token) → Begins c Operand (read_after_term a t) (ts ++ t ∷ [])
more_after_term h (token.Sign cmp) = after_sign h cmp
more_after_term h other = refused

right_side_more : {c : List ℕ → ℕ} {ts : List Token} {a : Term} → IsTerm c ts a → (cmp : Cmp) (t : Token)
    → Begins c Operand (right_side a cmp (side_of c t)) (ts ++ token.Sign cmp ∷ t ∷ [])
right_side_more h cmp (token.Column name) = finished (comparison h cmp (a_column name))
right_side_more h cmp (token.Integer n) = finished (comparison h cmp (an_integer n))
right_side_more h cmp (token.Text bytes) = finished (comparison h cmp (a_text bytes))
right_side_more h cmp (token.Flag flag) = finished (comparison h cmp (a_flag flag))
right_side_more h cmp other = refused

more_after_sign : {c : List ℕ → ℕ} {ts : List Token} {a : Term} → IsTerm c ts a → (cmp : Cmp) (t : Token)
    → Begins c Operand (read_after_sign c a cmp t) (ts ++ token.Sign cmp ∷ t ∷ [])
more_after_sign h cmp token.Len = after_sign_len h cmp
more_after_sign h cmp other = right_side_more h cmp other

more_after_sign_len : {c : List ℕ → ℕ} {ts : List Token} {a : Term} → IsTerm c ts a → (cmp : Cmp) (t : Token)
    → Begins c Operand (read_after_sign_len c a cmp t) (ts ++ token.Sign cmp ∷ token.Len ∷ t ∷ [])
more_after_sign_len h cmp (token.Column name) = finished (comparison h cmp (a_length name))
more_after_sign_len h cmp other = refused

more_after_is : (c : List ℕ → ℕ) (name : List ℕ) (t : Token) → Begins c Operand (read_after_is (c name) t) (token.Column name ∷ token.Is ∷ t ∷ [])
more_after_is c name token.Null = finished (absence name)
more_after_is c name other = refused

-- a number of a native check is what its token says
number_is : (n : ℤ) (m : ℕ) → small_number n ≡ Some m → (n ≡ pos m) × (m < 2 ^ 16)
number_is (pos n) m e = fits (nat_lt n (2 ^ 16)) refl e
  where
    fits : (b : Bool) → nat_lt n (2 ^ 16) ≡ b → cond b (Some n) None ≡ Some m → (pos n ≡ pos m) × (m < 2 ^ 16)
    fits true low is = let same : n ≡ m = cc in (ap pos same, grind (arith, nat_tests))
    fits false low is = absurd cc
number_is (negsuc n) m e = absurd cc

number_more : (c : List ℕ → ℕ) (n : ℤ) (o : Option ℕ) → small_number n ≡ o → Begins c Operand (number_read o) (token.Native ∷ token.Integer n ∷ [])
number_more c n (Some m) e =
    let h = number_is n m e in
    subst (λ i. Begins c Operand (After_number m) (token.Native ∷ token.Integer i ∷ [])) (sym h.0) (after_number m h.1)
number_more c n None e = refused

more_after_native : (c : List ℕ → ℕ) (t : Token) → Begins c Operand (read_after_native t) (token.Native ∷ t ∷ [])
more_after_native c (token.Integer n) = number_more c n (small_number n) refl
more_after_native c other = refused

more_after_number : (c : List ℕ → ℕ) (n : ℕ) → n < 2 ^ 16 → (t : Token) → Begins c Operand (read_after_number c n t) (token.Native ∷ token.Integer (pos n) ∷ t ∷ [])
more_after_number c n low (token.Column name) = finished (check_one n low name)
more_after_number c n low token.Open = after_open n low
more_after_number c n low other = refused

more_after_open : (c : List ℕ → ℕ) (n : ℕ) → n < 2 ^ 16 → (t : Token)
    → Begins c Operand (read_after_comma c n [] t) (token.Native ∷ token.Integer (pos n) ∷ token.Open ∷ t ∷ [])
more_after_open c n low (token.Column name) = after_argument n low (one_column name)
more_after_open c n low other = refused

more_after_comma : {c : List ℕ → ℕ} {ts : List Token} {columns : List ℕ} → AreColumns c ts columns → (n : ℕ) → n < 2 ^ 16 → (t : Token)
    → Begins c Operand (read_after_comma c n columns t) (token.Native ∷ token.Integer (pos n) ∷ token.Open ∷ (ts ++ token.Comma ∷ t ∷ []))
more_after_comma more n low (token.Column name) = after_argument n low (column_more more name)
more_after_comma more n low other = refused

more_after_argument : {c : List ℕ → ℕ} {ts : List Token} {columns : List ℕ} → AreColumns c ts columns → (n : ℕ) → n < 2 ^ 16 → (t : Token)
    → Begins c Operand (read_after_argument n columns t) (token.Native ∷ token.Integer (pos n) ∷ token.Open ∷ (ts ++ t ∷ []))
more_after_argument more n low token.Comma = after_comma n low more
more_after_argument more n low token.Close = finished (check_all n low more)
more_after_argument more n low other = refused

-- one token more of an operand
reads_more : {c : List ℕ → ℕ} {r : Reading} {ts : List Token} → Begins c Conjunction r ts → (t : Token) → Begins c Operand (read_more c r t) (ts ++ t ∷ [])
reads_more {c} begun t = more_begun c t
reads_more {c} after_len t = more_after_len c t
reads_more {c} (after_column name) t = more_after_column c name t
reads_more (after_term h) t = more_after_term h t
reads_more (after_sign h cmp) t = rw append_assoc (more_after_sign h cmp t)
reads_more (after_sign_len h cmp) t = rw append_assoc (more_after_sign_len h cmp t)
reads_more {c} (after_is name) t = more_after_is c name t
reads_more {c} after_native t = more_after_native c t
reads_more {c} (after_number n low) t = more_after_number c n low t
reads_more {c} (after_open n low) t = more_after_open c n low t
reads_more (after_comma n low more) t = rw append_assoc (more_after_comma more n low t)
reads_more (after_argument n low more) t = more_after_argument more n low t
reads_more (finished p) t = refused
reads_more refused t = refused

-- The tokens are those of a stack, and then those of an operand as far as it has been read.
record Reached (c : List ℕ → ℕ) (level : Level) (r : Reading) (frames : List Frame) (ts : List Token) : Type 0 where
  before : List Token
  part : List Token
  parts : ts ≡ before ++ part
  stack : Stands c frames before
  begins : Begins c level r part

abbrev ReachedBy : (List ℕ → ℕ) → Level → State → List Token → Type 0
ReachedBy c level state ts = Reached c level state.0 state.1 ts

lost : {c : List ℕ → ℕ} {frames : List Frame} {before : List Token} → Stands c frames before → (part : List Token) → Reached c Conjunction Refused frames (before ++ part)
lost {before = ts} s part = record { before = ts; part = part; parts = refl; stack = s; begins = refused }

regrouped : (a b e : List Token) (t : Token) → (a ++ (b ++ t ∷ [])) ++ e ≡ a ++ (b ++ t ∷ e)
regrouped a b e t = append_assoc a (b ++ t ∷ []) e ∙ ap (λ ts. a ++ ts) (append_assoc b (t ∷ []) e)

completes : {c : List ℕ → ℕ} {frames : List Frame} {before : List Token} → Stands c frames before → {part : List Token} {e : Tree} → Parses c Operand part e
    → ReachedBy c Conjunction (complete e frames) (before ++ part)
completes bottom {part} p = record { before = []; part = part; parts = refl; stack = bottom; begins = finished (operand p) }
completes (bracket {ts = ts} s) {part} p = record { before = ts ++ token.Open ∷ []; part = part; parts = refl; stack = bracket s; begins = finished (operand p) }
completes {c} (before_negation {frames = frames} {ts = ts} s) {part} {e} p =
    subst (λ all. ReachedBy c Conjunction (complete (Negation e) frames) all) (sym (append_assoc ts (token.Not ∷ []) part)) (completes s (negation p))
completes (before_right {ts = ts} {left = left} s q) {part} p =
    record { before = ts; part = left ++ token.And ∷ part; parts = regrouped ts left part token.And; stack = s; begins = finished (both q p) }
completes (before_other {ts = ts} {left = left} s q) {part} p =
    record { before = ts ++ (left ++ token.Or ∷ []); part = part; parts = refl; stack = before_other s q; begins = finished (operand p) }

-- a whole expression after a stack
record Joined (c : List ℕ → ℕ) (joined : Tree × List Frame) (ts : List Token) : Type 0 where
  before : List Token
  part : List Token
  parts : ts ≡ before ++ part
  stack : Stands c joined.1 before
  reads : Parses c Disjunction part joined.0

joins : {c : List ℕ → ℕ} {frames : List Frame} {before : List Token} → Stands c frames before → {part : List Token} {e : Tree} → Parses c Conjunction part e
    → Joined c (join e frames) (before ++ part)
joins bottom {part} p = record { before = []; part = part; parts = refl; stack = bottom; reads = conjunction p }
joins (bracket {ts = ts} s) {part} p = record { before = ts ++ token.Open ∷ []; part = part; parts = refl; stack = bracket s; reads = conjunction p }
joins (before_negation {ts = ts} s) {part} p = record { before = ts ++ token.Not ∷ []; part = part; parts = refl; stack = before_negation s; reads = conjunction p }
joins (before_right {ts = ts} {left = left} s q) {part} p =
    record { before = ts ++ (left ++ token.And ∷ []); part = part; parts = refl; stack = before_right s q; reads = conjunction p }
joins (before_other {ts = ts} {left = left} s q) {part} p =
    record { before = ts; part = left ++ token.Or ∷ part; parts = regrouped ts left part token.Or; stack = s; reads = either q p }

closes : {c : List ℕ → ℕ} {frames : List Frame} {before : List Token} → Stands c frames before → {part : List Token} {e : Tree} → Parses c Disjunction part e
    → ReachedBy c Conjunction (close e frames) (before ++ (part ++ token.Close ∷ []))
closes bottom {part} p = lost bottom (part ++ token.Close ∷ [])
closes {c} (bracket {frames = frames} {ts = ts} s) {part} {e} p =
    subst (λ all. ReachedBy c Conjunction (complete e frames) all) (sym (append_assoc ts (token.Open ∷ []) (part ++ token.Close ∷ []))) (completes s (brackets p))
closes (before_negation s) {part} p = lost (before_negation s) (part ++ token.Close ∷ [])
closes (before_right s q) {part} p = lost (before_right s q) (part ++ token.Close ∷ [])
closes (before_other s q) {part} p = lost (before_other s q) (part ++ token.Close ∷ [])

closes_joined : {c : List ℕ → ℕ} (joined : Tree × List Frame) (ts : List Token) → Joined c joined ts → ReachedBy c Conjunction (close_joined joined) (ts ++ token.Close ∷ [])
closes_joined {c} joined ts j =
    subst (λ all. ReachedBy c Conjunction (close_joined joined) all)
    (sym (ap (λ all. all ++ token.Close ∷ []) j.parts ∙ append_assoc j.before j.part (token.Close ∷ [])))
    (closes j.stack j.reads)

stands_joined : {c : List ℕ → ℕ} (joined : Tree × List Frame) (ts : List Token) → Joined c joined ts → ReachedBy c Conjunction (before_or joined) (ts ++ token.Or ∷ [])
stands_joined joined ts j =
    record {
      before = j.before ++ (j.part ++ token.Or ∷ []);
      part = [];
      parts = ap (λ all. all ++ token.Or ∷ []) j.parts ∙ (append_assoc j.before j.part (token.Or ∷ []) ∙ sym (append-nil _));
      stack = before_other j.stack j.reads;
      begins = begun;
    }

-- nothing before a token
alone : (ts : List Token) (t : Token) → ts ++ t ∷ [] ≡ (ts ++ t ∷ []) ++ []
alone ts t = sym (append-nil (ts ++ t ∷ []))

steps_finished : {c : List ℕ → ℕ} {frames : List Frame} {before : List Token} → Stands c frames before → {part : List Token} {e : Tree} → Parses c Conjunction part e
    → (t : Token) → ReachedBy c Conjunction (step_finished e frames t) ((before ++ part) ++ t ∷ [])
steps_finished {before = ts} s {part} p token.And =
    record { before = ts ++ (part ++ token.And ∷ []); part = []; parts = append_assoc ts part (token.And ∷ []) ∙ sym (append-nil _); stack = before_right s p; begins = begun }
steps_finished {frames = frames} {before = ts} s {part} {e} p token.Or = stands_joined (join e frames) (ts ++ part) (joins s p)
steps_finished {frames = frames} {before = ts} s {part} {e} p token.Close = closes_joined (join e frames) (ts ++ part) (joins s p)
steps_finished s {part} p other = rw append_assoc (lost s (part ++ other ∷ []))

-- what was read of an operand, or a whole one with what it completes
settles : {c : List ℕ → ℕ} {frames : List Frame} {before : List Token} → Stands c frames before → {r : Reading} {part : List Token} → Begins c Operand r part
    → ReachedBy c Conjunction (settled r frames) (before ++ part)
settles {before = ts} s begun = record { before = ts; part = []; parts = refl; stack = s; begins = begun }
settles {before = ts} s after_len = record { before = ts; part = token.Len ∷ []; parts = refl; stack = s; begins = after_len }
settles {before = ts} s {part = part} (after_column name) = record { before = ts; part = token.Column name ∷ []; parts = refl; stack = s; begins = after_column name }
settles {before = ts} s {part = part} (after_term h) = record { before = ts; part = part; parts = refl; stack = s; begins = after_term h }
settles {before = ts} s {part = part} (after_sign h cmp) = record { before = ts; part = _; parts = refl; stack = s; begins = after_sign h cmp }
settles {before = ts} s {part = part} (after_sign_len h cmp) = record { before = ts; part = _; parts = refl; stack = s; begins = after_sign_len h cmp }
settles {before = ts} s {part = part} (after_is name) = record { before = ts; part = _; parts = refl; stack = s; begins = after_is name }
settles {before = ts} s after_native = record { before = ts; part = _; parts = refl; stack = s; begins = after_native }
settles {before = ts} s (after_number n low) = record { before = ts; part = _; parts = refl; stack = s; begins = after_number n low }
settles {before = ts} s (after_open n low) = record { before = ts; part = _; parts = refl; stack = s; begins = after_open n low }
settles {before = ts} s (after_comma n low more) = record { before = ts; part = _; parts = refl; stack = s; begins = after_comma n low more }
settles {before = ts} s (after_argument n low more) = record { before = ts; part = _; parts = refl; stack = s; begins = after_argument n low more }
settles s (finished p) = completes s p
settles {before = ts} s {part = part} refused = record { before = ts; part = part; parts = refl; stack = s; begins = refused }

steps_begun : {c : List ℕ → ℕ} {frames : List Frame} {before : List Token} → Stands c frames before → (t : Token)
    → ReachedBy c Conjunction (step_begun c frames t) (before ++ t ∷ [])
steps_begun {before = ts} s token.Not = record { before = ts ++ token.Not ∷ []; part = []; parts = alone ts token.Not; stack = before_negation s; begins = begun }
steps_begun {before = ts} s token.Open = record { before = ts ++ token.Open ∷ []; part = []; parts = alone ts token.Open; stack = bracket s; begins = begun }
steps_begun {c} s other = settles s (more_begun c other)

-- a token more
steps : {c : List ℕ → ℕ} {frames : List Frame} {before : List Token} → Stands c frames before → {r : Reading} {part : List Token} → Begins c Conjunction r part
    → (t : Token) → ReachedBy c Conjunction (step c r frames t) ((before ++ part) ++ t ∷ [])
steps {c} {frames = frames} {before = ts} s begun t =
    subst (λ (all : List Token). ReachedBy c Conjunction (step_begun c frames t) (all ++ t ∷ [])) (sym (append-nil ts)) (steps_begun s t)
steps s (finished p) t = steps_finished s p t
steps s after_len t = rw append_assoc (settles s (reads_more after_len t))
steps s (after_column name) t = rw append_assoc (settles s (reads_more (after_column name) t))
steps s (after_term h) t = rw append_assoc (settles s (reads_more (after_term h) t))
steps s (after_sign h cmp) t = rw append_assoc (settles s (reads_more (after_sign h cmp) t))
steps s (after_sign_len h cmp) t = rw append_assoc (settles s (reads_more (after_sign_len h cmp) t))
steps s (after_is name) t = rw append_assoc (settles s (reads_more (after_is name) t))
steps s after_native t = rw append_assoc (settles s (reads_more after_native t))
steps s (after_number n low) t = rw append_assoc (settles s (reads_more (after_number n low) t))
steps s (after_open n low) t = rw append_assoc (settles s (reads_more (after_open n low) t))
steps s (after_comma n low more) t = rw append_assoc (settles s (reads_more (after_comma n low more) t))
steps s (after_argument n low more) t = rw append_assoc (settles s (reads_more (after_argument n low more) t))
steps {before = ts} s {part = part} refused t = record { before = ts; part = part ++ t ∷ []; parts = append_assoc ts part (t ∷ []); stack = s; begins = refused }

runs : (c : List ℕ → ℕ) (state : State) (ts us : List Token) → ReachedBy c Conjunction state ts → ReachedBy c Conjunction (run c state us) (ts ++ us)
runs c state ts [] h = subst (λ all. ReachedBy c Conjunction state all) (sym (append-nil ts)) h
runs c state ts (u ∷ us) h =
    let next = step c state.0 state.1 u in
    let stepped : ReachedBy c Conjunction next (ts ++ u ∷ []) =
    subst (λ (all : List Token). ReachedBy c Conjunction next (all ++ u ∷ [])) (sym h.parts) (steps h.stack h.begins u) in
    subst (λ all. ReachedBy c Conjunction (run c next us) all) (append_assoc ts (u ∷ []) us) (runs c next (ts ++ u ∷ []) us stepped)

-- nothing stands before what is whole
base : {c : List ℕ → ℕ} {before : List Token} → Stands c [] before → (part : List Token) → before ++ part ≡ part
base bottom part = refl

-- what is whole when nothing stands open
whole_reads : {c : List ℕ → ℕ} (joined : Tree × List Frame) (ts : List Token) (e : Tree) → whole joined ≡ Some e → Joined c joined ts → Parses c Disjunction ts e
whole_reads {c} (tree, []) ts e is j =
    let same : tree ≡ e = cc in
    subst (λ all. Parses c Disjunction all e) (sym (j.parts ∙ base j.stack j.part)) (subst (λ a. Parses c Disjunction j.part a) same j.reads)
whole_reads (tree, frame ∷ frames) ts e is j = absurd cc

outcome_reads : {c : List ℕ → ℕ} {r : Reading} {frames : List Frame} {before part : List Token} (e : Tree) → outcome r frames ≡ Some e
    → Stands c frames before → Begins c Conjunction r part → Parses c Disjunction (before ++ part) e
outcome_reads {frames = frames} {before = ts} {part = part} e is s (finished {a = a} p) = whole_reads (join a frames) (ts ++ part) e is (joins s p)
outcome_reads e is s begun = absurd cc
outcome_reads e is s after_len = absurd cc
outcome_reads e is s (after_column name) = absurd cc
outcome_reads e is s (after_term h) = absurd cc
outcome_reads e is s (after_sign h cmp) = absurd cc
outcome_reads e is s (after_sign_len h cmp) = absurd cc
outcome_reads e is s (after_is name) = absurd cc
outcome_reads e is s after_native = absurd cc
outcome_reads e is s (after_number n low) = absurd cc
outcome_reads e is s (after_open n low) = absurd cc
outcome_reads e is s (after_comma n low more) = absurd cc
outcome_reads e is s (after_argument n low more) = absurd cc
outcome_reads e is s refused = absurd cc

-- what is read to its end is an expression
pub Parses-parsed : (c : List ℕ → ℕ) (ts : List Token) (e : Tree) → parsed c ts ≡ Some e → Parses c Disjunction ts e
Parses-parsed c ts e is =
    let h = runs c (Begun, []) [] ts (record { before = []; part = []; parts = refl; stack = bottom; begins = begun }) in
    subst (λ all. Parses c Disjunction all e) (sym h.parts) (outcome_reads e is h.stack h.begins)
