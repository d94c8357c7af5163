-- What is said of answers.
use Rattle.std.proofs.Common.{◌≡◌, Result, Ok, Err, subst, sym}
use Rattle.std.specs.Prelude.{IfOk, IfErr, OnOk}
use Rattle.std.specs.Result.{IsErrAnd}

pub if_ok_map : {T E : Type 0} (result : Result T E) (P Q : T → Type 0) → ((x : T) → P x → Q x) → IfOk result P → IfOk result Q
if_ok_map (Ok x) P Q f is = f x is
if_ok_map (Err e) P Q f is = tt

pub if_err_map : {T E : Type 0} (result : Result T E) (P Q : E → Type 0) → ((e : E) → P e → Q e) → IfErr result P → IfErr result Q
if_err_map (Ok x) P Q f is = tt
if_err_map (Err e) P Q f is = f e is

-- what holds in any case holds where there is an answer
pub on_ok : {T E : Type 0} (result : Result T E) (P : Type 0) → P → OnOk result P
on_ok (Ok x) P is = is
on_ok (Err e) P is = tt

-- an error that is handed on
pub err_handed : {T E : Type 0} (result : Result T E) (why : E) (P : E → Type 0) → IsErrAnd result (λ y. y ≡ why) → P why → IfErr result P
err_handed (Ok x) why P same is = tt
err_handed (Err y) why P same is = subst P (sym same) is
