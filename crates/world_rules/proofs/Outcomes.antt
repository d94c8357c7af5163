-- What is said of answers.
use Rattle.std.proofs.Common.{◌≡◌, Result, Ok, Err, subst}
use Rattle.std.specs.Prelude.{IfOk, IfErr, OnErr}

pub if_ok_at : {T E : Type 0} (result : Result T E) (P : T → Type 0) → IfOk result P → (x : T) → result ≡ Ok x → P x
if_ok_at (Ok y) P h x is = let same : y ≡ x = cc in subst P same h
if_ok_at (Err e) P h x is = absurd cc

pub if_err_at : {T E : Type 0} (result : Result T E) (P : E → Type 0) → IfErr result P → (e : E) → result ≡ Err e → P e
if_err_at (Ok y) P h e is = absurd cc
if_err_at (Err d) P h e is = let same : d ≡ e = cc in subst P same h

pub on_err_at : {T E : Type 0} (result : Result T E) (P : Type 0) → OnErr result P → (e : E) → result ≡ Err e → P
on_err_at (Ok y) P h e is = absurd cc
on_err_at (Err d) P h e is = h

pub if_ok_map : {T E : Type 0} (result : Result T E) (P Q : T → Type 0) → ((x : T) → P x → Q x) → IfOk result P → IfOk result Q
if_ok_map (Ok x) P Q f is = f x is
if_ok_map (Err e) P Q f is = tt
