-- Names that are one, either way.
use Rattle.std.proofs.Common.{◌≡◌, Bool, true, false, refl, sym, ap, ◌∙◌}
use Rattle.update_model.specs.declared.row_name.RowName.{RowName}
use Rattle.table_model.specs.Visible.{same_row}
use Rattle.table_model.proofs.Standing.{row_from_same}

-- two truth values are one where each follows the other
pub one_truth : (x y : Bool) → (x ≡ true → x ≡ y) → (y ≡ true → y ≡ x) → x ≡ y
one_truth true y f g = f refl
one_truth false true f g = sym (g refl)
one_truth false false f g = refl

turned : (a b : RowName) → a ≡ b → same_row a b ≡ same_row b a
turned a b e = ap (λ (z : RowName). same_row z b) e ∙ ap (λ (z : RowName). same_row b z) (sym e)

pub same_turned : (a b : RowName) → same_row a b ≡ same_row b a
same_turned a b = one_truth (same_row a b) (same_row b a) (λ h. turned a b (row_from_same a b h)) (λ h. turned b a (row_from_same b a h))
