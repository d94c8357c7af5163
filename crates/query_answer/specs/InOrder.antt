-- Lists in order.
use Rattle.std.specs.Prelude.{List, [], ◌∷◌, if◌then◌else◌}
use Rattle.std.specs.declared.cmp.Ordering.{Ordering}
use Rattle.std.specs.Ordering.{is_lt}

-- an element before the first that it is below
abbrev pub put : {X : Type 0} → (X → X → Ordering) → X → List X → List X
put cmp x [] = x ∷ []
put cmp x (y ∷ ys) = if is_lt (cmp x y) then x ∷ y ∷ ys else y ∷ put cmp x ys

-- one after another
abbrev pub put_all : {X : Type 0} → (X → X → Ordering) → List X → List X → List X
put_all cmp sorted [] = sorted
put_all cmp sorted (x ∷ xs) = put_all cmp (put cmp x sorted) xs

-- these in order
abbrev pub in_order : {X : Type 0} → (X → X → Ordering) → List X → List X
in_order cmp xs = put_all cmp [] xs
