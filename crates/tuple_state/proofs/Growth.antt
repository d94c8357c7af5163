-- Tests that are equal, and names that are.
use Rattle.std.proofs.Common.{◌≡◌, Bool, true, false, refl, sym, subst}
use Rattle.update_model.specs.declared.row_name.RowName.{RowName}
use Rattle.table_model.specs.Visible.{same_row}
use Rattle.table_model.proofs.Standing.{row_from_same, same_row-refl}

pub bool_same : (a b : Bool) → (a ≡ true → b ≡ true) → (b ≡ true → a ≡ true) → a ≡ b
bool_same true true f h = refl
bool_same true false f h = sym (f refl)
bool_same false true f h = h refl
bool_same false false f h = refl

pub same_row-symm : (a b : RowName) → same_row a b ≡ same_row b a
same_row-symm a b =
    bool_same _ _ (λ h. subst (λ (n : RowName). same_row n a ≡ true) (row_from_same a b h) (same_row-refl a)) (λ h. subst (λ (n : RowName). same_row n b ≡ true) (row_from_same b a h) (same_row-refl b))
