-- Values that compare as equal.
use Rattle.std.proofs.Common.{◌≡◌, ℕ, true, false, refl, sym, ◌∙◌, Option, Some, None, is_none}
use Rattle.std.proofs.lemmas.Cmp.{eq_by_cmp_equiv, int_cmp_total, nat_list_cmp_total}
use Rattle.std.specs.Prelude.{Bool}
use Rattle.update_model.specs.declared.row_name.RowName.{RowName}
use Rattle.update_model.specs.declared.value.Value.{Value}
use Rattle.update_model.specs.declared.value.Value.TheVariants as value
use Rattle.row_check.specs.declared.cmp.Cmp.TheVariants as cmp
use Rattle.row_check.specs.Comparisons.{compares}
use Rattle.table_model.proofs.Standing.{bool_same}
use Rattle.table_model.specs.Visible.{Rules, TableRow, Effects, kept_of, is_least_in, is_least}

pub equal_both : (v a b : Value) → compares cmp.Eq v a ≡ true → compares cmp.Eq v b ≡ true → compares cmp.Eq a b ≡ true
equal_both (value.Int n) (value.Int a) (value.Int b) p q =
    let e = eq_by_cmp_equiv int_cmp_total in sym (e.congr n a b p) ∙ q
equal_both (value.Text n) (value.Text a) (value.Text b) p q =
    let e = eq_by_cmp_equiv nat_list_cmp_total in sym (e.congr n a b p) ∙ q
equal_both (value.Flag true) (value.Flag true) (value.Flag true) p q = refl
equal_both (value.Flag false) (value.Flag false) (value.Flag false) p q = refl
equal_both v a b p q = absurd cc

pub equal_on : (v a b : Value) → compares cmp.Eq v a ≡ true → compares cmp.Eq a b ≡ true → compares cmp.Eq v b ≡ true
equal_on (value.Int n) (value.Int a) (value.Int b) p q = let e = eq_by_cmp_equiv int_cmp_total in e.congr n a b p ∙ q
equal_on (value.Text n) (value.Text a) (value.Text b) p q = let e = eq_by_cmp_equiv nat_list_cmp_total in e.congr n a b p ∙ q
equal_on (value.Flag true) (value.Flag true) (value.Flag true) p q = refl
equal_on (value.Flag false) (value.Flag false) (value.Flag false) p q = refl
equal_on v a b p q = absurd cc

equal_self : (a b : Value) → compares cmp.Eq a b ≡ true → compares cmp.Eq a a ≡ true
equal_self (value.Int a) (value.Int b) p = let e = eq_by_cmp_equiv int_cmp_total in e.refl a
equal_self (value.Text a) (value.Text b) p = let e = eq_by_cmp_equiv nat_list_cmp_total in e.refl a
equal_self (value.Flag true) (value.Flag b) p = refl
equal_self (value.Flag false) (value.Flag b) p = refl
equal_self a b p = absurd cc

pub equal_back : (a b : Value) → compares cmp.Eq a b ≡ compares cmp.Eq b a
equal_back a b =
    bool_same (compares cmp.Eq a b) (compares cmp.Eq b a)
    (λ h. equal_both a b a h (equal_self a b h)) (λ h. equal_both b a b h (equal_self b a h))

-- in a table that keeps no least row nothing goes before a row
pub plain_least : (rules : Rules) (g : Effects) (seen : RowName → Bool) (e : TableRow) → is_none (kept_of rules e.table) ≡ true → is_least rules g seen e ≡ true
plain_least rules g seen e h =
    let step : (o : Option ℕ) → is_none o ≡ true → is_least_in rules g seen e o ≡ true = elim [ None ↦ λ n. refl | Some column ↦ λ n. absurd cc ] in
    step (kept_of rules e.table) h
