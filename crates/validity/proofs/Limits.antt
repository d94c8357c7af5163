-- Whether tables from one on are unlimited.
use Rattle.std.proofs.Common.{◌≡◌, ℕ, zero, suc, ◌+◌, Bool, ◌&&◌, List, [], ◌∷◌, drop, sym, ap, ◌∙◌, arith, Some, slice_get}
use Rattle.std.specs.List.{list_all}
use Rattle.schema.specs.declared.table_def.TableDef.{TableDef}
use Rattle.table_model.specs.Verdicts.{is_unlimited}

-- the rest from a place on begins with what stands there
drop_at : (tables : List TableDef) (i : ℕ) (table : TableDef) → slice_get tables i ≡ Some table → drop i tables ≡ table ∷ drop (suc i) tables
drop_at [] i table e = absurd (cc)
drop_at (t ∷ ts) zero table e = let same : t ≡ table = cc in ap (λ x. x ∷ ts) same
drop_at (t ∷ ts) (suc i) table e = drop_at ts i table e

pub unlimited_from : (tables : List TableDef) (i : ℕ) (table : TableDef) (b all : Bool) → slice_get tables i ≡ Some table → is_unlimited table ≡ b
    → list_all is_unlimited (drop i tables) ≡ all → (b && list_all is_unlimited (drop (i + 1) tables)) ≡ all
unlimited_from tables i table b all e is rest =
    let more : i + 1 ≡ suc i = omega arith in
    (λ j. sym is j && list_all is_unlimited (drop (more j) tables)) ∙ sym (ap (list_all is_unlimited) (drop_at tables i table e)) ∙ rest
