-- Rows found by their names.
use Rattle.std.proofs.Common.{◌≡◌, ℕ, zero, suc, ◌+◌, ◌<◌, Bool, true, false, cond, List, [], ◌∷◌, ◌++◌, length, get_or, map, reverse, refl, sym, ap, ◌∙◌, Option, Some, None, arith}
use Rattle.std.specs.Prelude.{slice_get, is_some}
use Rattle.std.specs.List.{list_any, position_from}
use Rattle.std.proofs.lemmas.List.{reverse-append}
use Rattle.update_model.specs.declared.row_name.RowName.{RowName}
use Rattle.update_model.specs.Node.{NodeData}
use Rattle.update_model.proofs.Closed.{is_some-position}
use Rattle.table_model.specs.Visible.{Rules, TableRow, Effects, same_row, is_visible}
use Rattle.table_model.specs.Verdicts.{effects_in}
use Rattle.schema.proofs.Soundness.{sound_tables}
use Rattle.table_model.proofs.Founded.{founded_closed}
use Rattle.table_model.proofs.Members.{any_mapped, any_reversed}
use Rattle.table_model.proofs.Resting.{resting}
use Rattle.table_model.proofs.Settled.{are_resting}
use Rattle.table_model.proofs.Standing.{row_from_same}
use Rattle.tuple_state.specs.declared.inserted.Inserted.{Inserted}
use Rattle.tuple_state.specs.State.{IsStateOf, State, done_in, row_of, rules_of_state}
use Rattle.tuple_state.specs.Kept.{is_named, place_of}
use Rattle.tuple_state.proofs.Effects.{did_is, shapes_are}
use Rattle.tuple_state.proofs.Layers.{SameShapes, same_resting, same_shapes, same_visible}

pub reverse_cons : {X : Type 0} (x : X) (xs : List X) → reverse (x ∷ xs) ≡ reverse xs ++ x ∷ []
reverse_cons x xs = reverse-append (x ∷ []) xs

-- whether a row has a name, in either order
pub named_reversed : (rows : List Inserted) (name : RowName) → is_named (reverse (map row_of rows)) name ≡ list_any (λ (it : Inserted). same_row it.name name) rows
named_reversed rows name =
    any_reversed (λ (row : TableRow). same_row row.name name) (map row_of rows) ∙ any_mapped row_of (λ (row : TableRow). same_row row.name name) rows

-- what stands at the place that is found
pub record FoundAt {X : Type 0} (t : X → Bool) (i : ℕ) (xs : List X) (k : ℕ) : Type 0 where
  pub off : ℕ
  pub is : k ≡ i + off
  pub below : off < length xs
  pub it : X
  pub at : slice_get xs off ≡ Some it
  pub passes : t it ≡ true

pub found_at : {X : Type 0} (t : X → Bool) (i : ℕ) (xs : List X) (k : ℕ) → position_from t i xs ≡ Some k → FoundAt t i xs k
found_at t i [] k h = absurd (cc)
found_at t i (x ∷ xs) k h =
    elim (t x) as (λ b. t x ≡ b → cond b (Some i) (position_from t (i + 1) xs) ≡ Some k → FoundAt t i (x ∷ xs) k) [
      | true ↦ λ e g. let same : i ≡ k = cc in record { off = 0; is = omega (arith, same); below = omega arith; it = x; at = refl; passes = e }
      | false ↦ λ e g.
          let rest = found_at t (i + 1) xs k g in
          record { off = suc rest.off; is = omega (arith, rest.is); below = omega (arith, rest.below); it = rest.it; at = rest.at; passes = rest.passes }
    ] refl h

pub slice_get_mapped : {X Y : Type 0} (f : X → Y) (xs : List X) (k : ℕ) (x : X) → slice_get xs k ≡ Some x → slice_get (map f xs) k ≡ Some (f x)
slice_get_mapped f [] k x h = absurd (cc)
slice_get_mapped f (y ∷ xs) zero x h = let same : y ≡ x = cc in ap (λ z. Some (f z)) same
slice_get_mapped f (y ∷ xs) (suc k) x h = slice_get_mapped f xs k x h

pub get_or_from : {X : Type 0} (xs : List X) (k : ℕ) (d x : X) → slice_get xs k ≡ Some x → get_or xs k d ≡ x
get_or_from [] k d x h = absurd (cc)
get_or_from (y ∷ xs) zero d x h = let same : y ≡ x = cc in same
get_or_from (y ∷ xs) (suc k) d x h = get_or_from xs k d x h

-- the row that is found by its name
pub record RowAt (rows : List Inserted) (name : RowName) (k : ℕ) : Type 0 where
  pub below : k < length rows
  pub it : Inserted
  pub at : slice_get rows k ≡ Some it
  pub name_is : it.name ≡ name

pub row_found : (rows : List Inserted) (name : RowName) (k : ℕ) → place_of rows name ≡ Some k → RowAt rows name k
row_found rows name k h =
    let f = found_at (λ (it : Inserted). same_row it.name name) 0 rows k h in
    let same : f.off ≡ k = omega (arith, f.is) in
    record {
      below = omega (arith, f.below, same);
      it = f.it;
      at = ap (slice_get rows) (sym same) ∙ f.at;
      name_is = row_from_same f.it.name name f.passes;
    }

none_some : (o : Option ℕ) → o ≡ None → is_some o ≡ false
none_some o h = ap is_some h

pub unnamed_from_none : (rows : List Inserted) (name : RowName) → place_of rows name ≡ None → is_named (reverse (map row_of rows)) name ≡ false
unnamed_from_none rows name h = named_reversed rows name ∙ sym (is_some-position (λ (it : Inserted). same_row it.name name) 0 rows) ∙ none_some _ h

-- the rules of a state have the shapes of those that it is a state of
pub shapes_same : (rules : Rules) (nodes : List NodeData) (state : State) → IsStateOf rules nodes state → SameShapes (rules_of_state state) rules
shapes_same rules nodes state held = same_shapes rules state.shapes (ap (λ (s : State). s.shapes) held.is ∙ shapes_are rules nodes)

pub did_same : (rules : Rules) (nodes : List NodeData) (state : State) → IsStateOf rules nodes state → done_in state ≡ effects_in rules nodes
did_same rules nodes state held = ap (λ (s : State). done_in s) held.is ∙ did_is rules nodes

-- the rows of a state rest on earlier ones
pub resting_now : (rules : Rules) (nodes : List NodeData) (state : State) → IsStateOf rules nodes state → are_resting (rules_of_state state) (done_in state).inserted ≡ true
resting_now rules nodes state held =
    same_resting (shapes_same rules nodes state held) (done_in state).inserted ∙ ap (λ (g : Effects). are_resting rules g.inserted) (did_same rules nodes state held)
    ∙ resting rules (sound_tables rules.tables held.tables) (effects_in rules nodes).inserted (founded_closed rules nodes held.closed).founded

-- what a state shows is what its nodes do
pub visible_now : (rules : Rules) (nodes : List NodeData) (state : State) → IsStateOf rules nodes state → (name : RowName)
    → is_visible (rules_of_state state) (done_in state) name ≡ is_visible rules (effects_in rules nodes) name
visible_now rules nodes state held name =
    same_visible (shapes_same rules nodes state held) (done_in state) name ∙ ap (λ (g : Effects). is_visible rules g name) (did_same rules nodes state held)
