-- What a condition sees is of the kinds that it wants.
use Rattle.std.proofs.Common.{◌≡◌, ◌∙◌, ℕ, ◌+◌, ◌<◌, List, [], ◌∷◌, ◌++◌, length, get_or, map, take, refl, sym, ap, ap₂, subst}
use Rattle.std.proofs.lemmas.List.{map_more}
use Rattle.update_model.specs.declared.value.Value.{Value}
use Rattle.update_model.specs.declared.value.Value.TheVariants as value
use Rattle.row_check.specs.declared.kind.Kind.{Kind}
use Rattle.row_check.specs.declared.kind.Kind.TheVariants as kind
use Rattle.row_check.specs.Kinds.{FitsKinds, IsOfKind}
use Rattle.table_model.specs.declared.shown_row.ShownRow.{ShownRow}
use Rattle.query.specs.declared.source.Slot.{Slot}
use Rattle.query.specs.Columns.{seen_kind, seen_kinds}
use Rattle.query_answer.specs.Values.{IsPlain, seen, seen_at, value_of}

pub seen_fits : (k : Kind) (v : Value) → IsOfKind (seen_kind k) (seen k v)
seen_fits kind.Int value.Null = tt
seen_fits kind.Int (value.Int n) = tt
seen_fits kind.Int (value.Text bytes) = tt
seen_fits kind.Int (value.Flag flag) = tt
seen_fits kind.Int (value.Row name) = tt
seen_fits kind.Int (value.Own index) = tt
seen_fits kind.Text value.Null = tt
seen_fits kind.Text (value.Int n) = tt
seen_fits kind.Text (value.Text bytes) = tt
seen_fits kind.Text (value.Flag flag) = tt
seen_fits kind.Text (value.Row name) = tt
seen_fits kind.Text (value.Own index) = tt
seen_fits kind.Flag value.Null = tt
seen_fits kind.Flag (value.Int n) = tt
seen_fits kind.Flag (value.Text bytes) = tt
seen_fits kind.Flag (value.Flag flag) = tt
seen_fits kind.Flag (value.Row name) = tt
seen_fits kind.Flag (value.Own index) = tt
seen_fits kind.Reference value.Null = tt
seen_fits kind.Reference (value.Int n) = tt
seen_fits kind.Reference (value.Text bytes) = tt
seen_fits kind.Reference (value.Flag flag) = tt
seen_fits kind.Reference (value.Row name) = tt
seen_fits kind.Reference (value.Own index) = tt

pub fits_push : (kinds : List Kind) (row : List Value) (k : Kind) (v : Value) → FitsKinds kinds row → IsOfKind k v → FitsKinds (kinds ++ k ∷ []) (row ++ v ∷ [])
fits_push [] [] k v f h = (h, tt)
fits_push [] (w ∷ row) k v f h = absurd f
fits_push (j ∷ kinds) [] k v f h = absurd f
fits_push (j ∷ kinds) (w ∷ row) k v f h = (f.0, fits_push kinds row k v f.1 h)

-- one column more
pub seen_more : (tables : List (List ShownRow)) (row : ShownRow) (slots : List Slot) (i : ℕ) (d : Slot) (old new : List Value) (x v : Value) (R : Type 0) → i < length slots
    → new ≡ old ++ v ∷ [] → v ≡ seen (get_or slots i d).kind x → (R → x ≡ value_of tables row (get_or slots i d).source)
    → FitsKinds (seen_kinds (take i slots)) old × (R → old ≡ map (seen_at tables row) (take i slots))
    → FitsKinds (seen_kinds (take (i + 1) slots)) new × (R → new ≡ map (seen_at tables row) (take (i + 1) slots))
seen_more tables row slots i d old new x v R low pushed is there before =
    let k = (get_or slots i d).kind in
    let front = seen_kinds (take i slots) in
    let kinds : seen_kinds (take (i + 1) slots) ≡ front ++ seen_kind k ∷ [] = map_more (λ (slot : Slot). seen_kind slot.kind) slots i d low in
    let last : IsOfKind (seen_kind k) v = subst (IsOfKind (seen_kind k)) (sym is) (seen_fits k x) in
    let fits : FitsKinds (front ++ seen_kind k ∷ []) (old ++ v ∷ []) = fits_push front old (seen_kind k) v before.0 last in (
      subst (λ (ks : List Kind). FitsKinds ks new) (sym kinds) (subst (FitsKinds (front ++ seen_kind k ∷ [])) (sym pushed) fits),
      λ r. pushed ∙ ap₂ (λ (xs : List Value) (y : Value). xs ++ y ∷ []) (before.1 r) (is ∙ ap (seen k) (there r)) ∙ sym (map_more (seen_at tables row) slots i d low),
    )

pub values_seen : (k : Kind) (v : Value) → IsPlain k → IsOfKind k v → seen k v ≡ v
values_seen kind.Int value.Null p h = refl
values_seen kind.Int (value.Int n) p h = refl
values_seen kind.Int (value.Text bytes) p h = absurd h
values_seen kind.Int (value.Flag flag) p h = absurd h
values_seen kind.Int (value.Row name) p h = absurd h
values_seen kind.Int (value.Own index) p h = absurd h
values_seen kind.Text value.Null p h = refl
values_seen kind.Text (value.Int n) p h = absurd h
values_seen kind.Text (value.Text bytes) p h = refl
values_seen kind.Text (value.Flag flag) p h = absurd h
values_seen kind.Text (value.Row name) p h = absurd h
values_seen kind.Text (value.Own index) p h = absurd h
values_seen kind.Flag value.Null p h = refl
values_seen kind.Flag (value.Int n) p h = absurd h
values_seen kind.Flag (value.Text bytes) p h = absurd h
values_seen kind.Flag (value.Flag flag) p h = refl
values_seen kind.Flag (value.Row name) p h = absurd h
values_seen kind.Flag (value.Own index) p h = absurd h
values_seen kind.Reference v p h = absurd p
