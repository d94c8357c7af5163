-- What operations insert and delete one by one is what a node does.
use Rattle.std.proofs.Common.{◌≡◌, ℕ, zero, suc, ◌+◌, ◌<◌, ◌≤◌, List, [], ◌∷◌, ◌++◌, length, get_or, drop, map, reverse, refl, sym, ap, ◌∙◌, append_assoc, drop-cons, arith}
use Rattle.std.proofs.lemmas.List.{append-nil, map-append}
use Rattle.update_model.specs.declared.op.Op.{Op}
use Rattle.update_model.specs.declared.op.Op.TheVariants.{Insert, Delete}
use Rattle.update_model.specs.Node.{NodeData}
use Rattle.table_model.specs.Verdicts.{effects_after, effects_of, nothing, row_inserted}
use Rattle.table_model.specs.Visible.{Effects}
use Rattle.tuple_state.specs.declared.dropped.Dropped.{Dropped}
use Rattle.tuple_state.specs.State.{dropped_at, inserted_at}
use Rattle.update_model.specs.declared.author_key.AuthorKey.{AuthorKey}
use Rattle.update_model.specs.declared.update_id.UpdateId.{UpdateId}
use Rattle.tuple_state.specs.Steps.{name_by, names_by, row_by, row_made, rows_by}
use Rattle.tuple_state.proofs.Lookups.{reverse_cons}

-- one more at the end of a list that is turned round
turned_more : {X Y : Type 0} (f : X → Y) (x : X) (xs : List X) (rest : List Y) → map f (reverse (x ∷ xs)) ++ rest ≡ map f (reverse xs) ++ f x ∷ rest
turned_more f x xs rest =
    ap (λ l. map f l ++ rest) (reverse_cons x xs) ∙ ap (λ l. l ++ rest) (map-append f (reverse xs) (x ∷ [])) ∙ append_assoc (map f (reverse xs)) (f x ∷ []) rest

rows_after : (position : ℕ) (node : NodeData) (number : ℕ) (did : Effects) (ops : List Op)
    → map (inserted_at position) (reverse (effects_after node number did ops).inserted) ≡ map (inserted_at position) (reverse did.inserted) ++ rows_by position node number ops
unfolding rows_by
rows_after position node number did [] = sym (append-nil _)
rows_after position node number did (Insert table values ∷ ops) =
    rows_after position node (number + 1) (record did { inserted = row_inserted node number table values ∷ did.inserted }) ops
    ∙ turned_more (inserted_at position) (row_inserted node number table values) did.inserted (rows_by position node (number + 1) ops)
rows_after position node number did (Delete name ∷ ops) = rows_after position node (number + 1) (record did { deleted = name ∷ did.deleted }) ops

names_after : (position : ℕ) (node : NodeData) (number : ℕ) (did : Effects) (ops : List Op)
    → map (dropped_at position) (reverse (effects_after node number did ops).deleted) ≡ map (dropped_at position) (reverse did.deleted) ++ names_by position ops
unfolding names_by
names_after position node number did [] = sym (append-nil _)
names_after position node number did (Insert table values ∷ ops) = names_after position node (number + 1) (record did { inserted = row_inserted node number table values ∷ did.inserted }) ops
names_after position node number did (Delete name ∷ ops) =
    names_after position node (number + 1) (record did { deleted = name ∷ did.deleted }) ops
    ∙ turned_more (dropped_at position) name did.deleted (names_by position ops)

pub rows_all : (position : ℕ) (node : NodeData) → rows_by position node 0 node.ops ≡ map (inserted_at position) (reverse (effects_of node).inserted)
rows_all position node = sym (rows_after position node 0 nothing node.ops)

pub names_all : (position : ℕ) (node : NodeData) → names_by position node.ops ≡ map (dropped_at position) (reverse (effects_of node).deleted)
names_all position node = sym (names_after position node 0 nothing node.ops)

pub drop_past : {X : Type 0} (n : ℕ) (xs : List X) → length xs ≤ n → drop n xs ≡ []
drop_past zero [] h = refl
drop_past (suc n) [] h = refl
drop_past zero (x ∷ xs) h = absurd (omega (arith, h))
drop_past (suc n) (x ∷ xs) h = drop_past n xs (omega (arith, h))

pub drop_next : {X : Type 0} (xs : List X) (i : ℕ) (x : X) → i < length xs → x ≡ get_or xs i x → drop i xs ≡ x ∷ drop (i + 1) xs
drop_next xs i x below is = let next : suc i ≡ i + 1 = omega arith in drop-cons xs i x below ∙ ap (λ y. y ∷ drop (suc i) xs) (sym is) ∙ ap (λ n. x ∷ drop n xs) next

pub names_step : (position : ℕ) (ops total : List Op) (i : ℕ) (op : Op) (names new : List Dropped) → i < length ops → op ≡ get_or ops i op
    → names ++ names_by position (drop i ops) ≡ names_by position total → new ≡ names ++ name_by position op → new ++ names_by position (drop (i + 1) ops) ≡ names_by position total
unfolding names_by
names_step position ops total i op names new below is inv added =
    ap (λ l. l ++ names_by position (drop (i + 1) ops)) added ∙ append_assoc names (name_by position op) _
    ∙ ap (λ l. names ++ names_by position l) (sym (drop_next ops i op below is)) ∙ inv

pub names_end : (position : ℕ) (ops total : List Op) (i : ℕ) (names : List Dropped) → length ops ≤ i → names ++ names_by position (drop i ops) ≡ names_by position total → names ≡ names_by position total
unfolding names_by
names_end position ops total i names past inv = sym (append-nil names) ∙ ap (λ l. names ++ names_by position l) (sym (drop_past i ops past)) ∙ inv

-- a node with this id and author
abbrev pub made_of : UpdateId → AuthorKey → NodeData
made_of id author = record { id = id; preds = []; author = author; ops = [] }

pub rows_more : (position : ℕ) (node : NodeData) (number : ℕ) (ops : List Op) (op : Op) → rows_by position node number (ops ++ op ∷ []) ≡ rows_by position node number ops ++ row_by position node (number + length ops) op
unfolding rows_by
rows_more position node number [] op = append-nil _ ∙ ap (λ n. row_by position node n op) (omega arith)
rows_more position node number (first ∷ ops) op =
    ap (λ l. row_by position node number first ++ l) (rows_more position node (number + 1) ops op ∙ ap (λ n. rows_by position node (number + 1) ops ++ row_by position node n op) (omega arith))
    ∙ sym (append_assoc (row_by position node number first) (rows_by position node (number + 1) ops) _)

pub rows_same : (position : ℕ) (node other : NodeData) (number : ℕ) (ops : List Op) → node.id ≡ other.id → node.author ≡ other.author → rows_by position node number ops ≡ rows_by position other number ops
unfolding rows_by
rows_same position node other number [] a b = refl
rows_same position node other number (op ∷ ops) a b = λ i. row_made position (a i) (b i) number op ++ rows_same position node other (number + 1) ops a b i
