-- What the steps of reading tell.
use Rattle.std.proofs.Common.{◌≡◌, Bool, true, false, cond, refl, ap, ◌∙◌}
use Rattle.std.specs.Prelude.{Option, Some, None}
use Rattle.sync_frames.specs.Reading.{◌>>=◌, judge}

-- the value of a step that was made
pub bind_some : {A B : Type 0} (r : Option A) (f : A → Option B) (y : B) → (r >>= f) ≡ Some y → (x : A) × (r ≡ Some x) × (f x ≡ Some y)
bind_some (Some x) f y e = (x, refl, e)
bind_some None f y e = absurd cc

-- a judgement that was passed
pub judged : {B : Type 0} (good : Bool) (f : Unit {0} → Option B) (y : B) → (judge good >>= f) ≡ Some y → (good ≡ true) × (f tt ≡ Some y)
judged true f y e = (refl, e)
judged false f y e = absurd cc

abbrev pub done : {A : Type 0} → A → Option A
done x = Some x

pub some_is : {A : Type 0} (x y : A) → done x ≡ done y → x ≡ y
some_is x y e = cc

-- a field that is whole
pub guard_ok : {A : Type 0} (b : Bool) (x y : A) → cond b None (done x) ≡ Some y → (b ≡ false) × (x ≡ y)
guard_ok true x y e = absurd cc
guard_ok false x y e = (refl, some_is x y e)

-- steps that are known, one after the other
pub then_is : {A B : Type 0} (r : Option A) (f : A → Option B) (x : A) (y : Option B) → r ≡ Some x → f x ≡ y → (r >>= f) ≡ y
then_is {A} {B} r f x y e g = let first : (r >>= f) ≡ f x = rw e refl in first ∙ g

pub judge_is : {B : Type 0} (good : Bool) (f : Unit {0} → Option B) (y : Option B) → good ≡ true → f tt ≡ y → (judge good >>= f) ≡ y
judge_is true f y e g = g
judge_is false f y e g = absurd cc

pub guard_is : {A : Type 0} (b : Bool) (x y : A) → b ≡ false → x ≡ y → cond b None (done x) ≡ done y
guard_is true x y b e = absurd cc
guard_is false x y b e = ap done e
