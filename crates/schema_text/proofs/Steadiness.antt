-- Which tables are steady, one after another.
use Rattle.std.proofs.Common.{◌≡◌, ℕ, ◌+◌, ◌<◌, Bool, List, [], ◌∷◌, ◌++◌, length, get_or, take, refl, sym, ap, ◌∙◌}
use Rattle.schema.specs.declared.table_def.TableDef.{TableDef}
use Rattle.schema.specs.Least.{is_steady_behind, steady_behind, steady_tables, targets_of}
use Rattle.std.proofs.lemmas.List.{take_more}

steady_next : (known : List Bool) (xs : List TableDef) (t : TableDef) → steady_behind known (xs ++ t ∷ []) ≡ steady_behind known xs ++ is_steady_behind (steady_behind known xs) t.kept (targets_of t.columns) ∷ []
steady_next known [] t = refl
steady_next known (x ∷ xs) t = steady_next (known ++ is_steady_behind known x.kept (targets_of x.columns) ∷ []) xs t

pub steady_step : (tables : List TableDef) (n : ℕ) (it : TableDef) (known : List Bool) (own : Bool) → n < length tables → it ≡ get_or tables n it
    → known ≡ steady_tables (take n tables) → own ≡ is_steady_behind known it.kept (targets_of it.columns) → known ++ own ∷ [] ≡ steady_tables (take (n + 1) tables)
steady_step tables n it known own below is so now =
    let last : take (n + 1) tables ≡ take n tables ++ it ∷ [] = take_more tables n it below ∙ ap (λ (x : TableDef). take n tables ++ x ∷ []) (sym is) in
    let here = now ∙ ap (λ (k : List Bool). is_steady_behind k it.kept (targets_of it.columns)) so in
    (λ i. so i ++ here i ∷ []) ∙ sym (ap steady_tables last ∙ steady_next [] (take n tables) it)
