-- What the steps of reading tell, where reading passed them and where it did not.
use Rattle.std.proofs.Common.{◌≡◌, ◌⊎◌, ℕ, Bool, true, false, cond, List, [], ◌∷◌, length, refl, sym, ap, ◌∙◌, ltb, inl, inr}
use Rattle.std.specs.Prelude.{Result, Ok, Err}
use Rattle.std.specs.Int.{Width, byte_len}
use Rattle.update_codec.specs.declared.codec_fault.CodecKind.{CodecKind}
use Rattle.update_codec.specs.declared.codec_fault.CodecKind.TheVariants as kinds
use Rattle.update_codec.specs.declared.halt.Halt.{Halt}
use Rattle.update_codec.specs.Reading.{◌>>=◌, judge, short, byte_at, block_at, number_at}

-- the value of a step that did not fail
pub bind_ok : {A B : Type 0} (r : Result A Halt) (f : A → Result B Halt) (y : B) → (r >>= f) ≡ Ok y → (x : A) × (r ≡ Ok x) × (f x ≡ Ok y)
bind_ok (Ok x) f y e = (x, refl, e)
bind_ok (Err d) f y e = absurd cc

-- a judgement that did not fail
pub judged : {B : Type 0} (good : Bool) (kind : CodecKind) (here : List ℕ) (f : Unit {0} → Result B Halt) (y : B) → (judge good kind here >>= f) ≡ Ok y → (good ≡ true) × (f tt ≡ Ok y)
judged true kind here f y e = (refl, e)
judged false kind here f y e = absurd cc

abbrev pub done : {A : Type 0} → A → Result A Halt
done x = Ok x

pub ok_is : {A : Type 0} (x y : A) → done x ≡ done y → x ≡ y
ok_is x y e = cc

-- a field that is whole
pub guard_ok : {A : Type 0} (b : Bool) (x y : A) → cond b short (done x) ≡ Ok y → (b ≡ false) × (x ≡ y)
guard_ok true x y e = absurd cc
guard_ok false x y e = (refl, ok_is x y e)

abbrev pub failed : (A : Type 0) → Halt → Result A Halt
failed A h = Err h

pub err_is : (A : Type 0) (h k : Halt) → failed A h ≡ failed A k → h ≡ k
err_is A h k e = cc

-- the halt where the input ends in a field
abbrev pub short_halt : Halt
short_halt = record { kind = kinds.Short; left = 0 }

-- a fault where these bytes are still to come
abbrev pub halt_at : CodecKind → List ℕ → Halt
halt_at kind here = record { kind = kind; left = length here }

-- Steps that are known, one after the other.
pub then_is : {A B : Type 0} (r : Result A Halt) (f : A → Result B Halt) (x : A) (y : Result B Halt) → r ≡ Ok x → f x ≡ y → (r >>= f) ≡ y
then_is {A} {B} r f x y e g = let first : (r >>= f) ≡ f x = rw e refl in first ∙ g

pub judge_is : {B : Type 0} (good : Bool) (kind : CodecKind) (here : List ℕ) (f : Unit {0} → Result B Halt) (y : Result B Halt) → good ≡ true → f tt ≡ y → (judge good kind here >>= f) ≡ y
judge_is true kind here f y e g = g
judge_is false kind here f y e g = absurd cc

pub judge_fails : {B : Type 0} (good : Bool) (kind : CodecKind) (here : List ℕ) (f : Unit {0} → Result B Halt) → good ≡ false → (judge good kind here >>= f) ≡ failed B (halt_at kind here)
judge_fails true kind here f e = absurd cc
judge_fails false kind here f e = refl

pub fails_first : {A B : Type 0} (r : Result A Halt) (f : A → Result B Halt) (h : Halt) → r ≡ failed A h → (r >>= f) ≡ failed B h
fails_first r f h e = rw e refl

pub guard_is : {A : Type 0} (b : Bool) (x y : A) → b ≡ false → x ≡ y → cond b short (done x) ≡ done y
guard_is true x y b e = absurd cc
guard_is false x y b e = ap done e

pub not_both : {A : Type 0} (r : Result A Halt) (x : A) (h : Halt) → r ≡ done x → r ≡ failed A h → ⊥
not_both r x h e g = cc

-- a step that failed, or one after it
pub bind_err : {A B : Type 0} (r : Result A Halt) (f : A → Result B Halt) (h : Halt) → (r >>= f) ≡ Err h → (r ≡ Err h) ⊎ ((x : A) × (r ≡ Ok x) × (f x ≡ Err h))
bind_err (Ok x) f h e = inr (x, refl, e)
bind_err {A = A} {B = B} (Err d) f h e = inl (ap (failed A) (err_is B d h e))

-- a judgement that failed, or a step after it
pub judge_err : {B : Type 0} (good : Bool) (kind : CodecKind) (here : List ℕ) (f : Unit {0} → Result B Halt) (h : Halt) → (judge good kind here >>= f) ≡ Err h
    → ((good ≡ false) × (h ≡ halt_at kind here)) ⊎ ((good ≡ true) × (f tt ≡ Err h))
judge_err true kind here f h e = inr (refl, e)
judge_err {B = B} false kind here f h e = inl (refl, sym (err_is B (halt_at kind here) h e))

guard_err : {A : Type 0} (b : Bool) (x : A) (h : Halt) → cond b short (done x) ≡ Err h → h ≡ short_halt
guard_err {A = A} true x h e = sym (err_is A short_halt h e)
guard_err false x h e = absurd cc

pub number_err : (w : Width) (bytes : List ℕ) (h : Halt) → number_at w bytes ≡ Err h → h ≡ short_halt
number_err w bytes h e = guard_err (ltb (length bytes) (byte_len w)) _ h e

pub block_err : (n : ℕ) (bytes : List ℕ) (h : Halt) → block_at n bytes ≡ Err h → h ≡ short_halt
block_err n bytes h e = guard_err (ltb (length bytes) n) _ h e

pub byte_err : (bytes : List ℕ) (h : Halt) → byte_at bytes ≡ Err h → h ≡ short_halt
byte_err [] h e = sym (err_is (ℕ × List ℕ) short_halt h e)
byte_err (b ∷ bytes) h e = absurd cc
