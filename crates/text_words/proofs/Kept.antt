-- What a text begins with where a call ended in an error.
use Rattle.std.proofs.Common.{◌≡◌, ◌++◌, List, Result, Ok, Err, OnErr, sym, ap, ◌∙◌, append_assoc}
use mathlib.Core.List.{IsPrefix}

-- what stands before bytes that were added is kept where these are
pub front_kept : {A : Type 0} (front back mid new : List A) → mid ≡ front ++ back → IsPrefix mid new → IsPrefix front new
front_kept front back mid new is begins = (back ++ begins.0, sym (append_assoc front back begins.0) ∙ ap (λ text. text ++ begins.0) (sym is) ∙ begins.1)

pub same_kept : {A : Type 0} (front back new : List A) → new ≡ front ++ back → IsPrefix front new
same_kept front back new is = (back, sym is)

pub on_err : {T E : Type 0} (result : Result T E) (P : Type 0) → P → OnErr result P
on_err (Ok value) P holds = tt
on_err (Err error) P holds = holds
