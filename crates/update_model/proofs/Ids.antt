-- The order of ids, and when two are one.
use Rattle.std.proofs.Common.{◌≡◌, true, ap, sym, ◌∙◌}
use Rattle.std.specs.Cmp.{IsTotalOrder}
use Rattle.std.specs.Cmp.Lexicographic.{on_texts}
use Rattle.std.proofs.lemmas.Cmp.{eq_by_cmp_equiv}
use Rattle.std.proofs.lemmas.Map.Text.{is_eq-slice_cmp}
use Rattle.std.proofs.lemmas.Slice.Eq.{bytes_eq-Decides}
use Rattle.update_model.specs.declared.update_id.UpdateId.{UpdateId}
use Rattle.update_model.specs.Entry.{id_cmp, same_id}

pub id_cmp_total : IsTotalOrder id_cmp
id_cmp_total = on_texts (λ (id : UpdateId). id.0)

-- ids that the order does not tell apart are one
pub id_from_same : (a b : UpdateId) → same_id a b ≡ true → a ≡ b
id_from_same a b e =
    let same = (bytes_eq-Decides a.0 b.0).0 (sym (is_eq-slice_cmp a.0 b.0) ∙ e)
    in ap (λ bytes. record { 0 = bytes }) same

pub same_id-refl : (a : UpdateId) → same_id a a ≡ true
same_id-refl = (eq_by_cmp_equiv id_cmp_total).refl

pub same_id-symm : (a b : UpdateId) → same_id a b ≡ same_id b a
same_id-symm = (eq_by_cmp_equiv id_cmp_total).symm
