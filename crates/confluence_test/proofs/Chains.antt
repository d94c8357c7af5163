-- Rows in the order in which they are made, and newest first.
use Rattle.std.proofs.Common.{◌≡◌, ℕ, ◌+◌, ◌==◌, ◌<◌, zero, suc, Bool, true, false, cond, ◌||◌, List, [], ◌∷◌, ◌++◌, length, take, get_or, reverse, refl, sym, ap, ◌∙◌, arith, add-one}
use Rattle.std.proofs.lemmas.List.{reverse-append, length-reverse, length-take-le}
use Rattle.std.proofs.lemmas.List.Folds.{list_any-append}
use Rattle.update_model.specs.Node.{NodeData}
use Rattle.confluence_laws.specs.Examples.{Item, has_table, name_in, row_numbered, chain, after, copies}
use Rattle.confluence_test.proofs.Listing.{reverse_next}

-- a test of any row, either way
pub has_reverse : (rows : List Item) (table : ℕ) → has_table (reverse rows) table ≡ has_table rows table
has_reverse [] table = refl
has_reverse (row ∷ rows) table =
    ap (λ (l : List Item). has_table l table) (reverse-append (row ∷ []) rows) ∙ list_any-append (λ item. item.table == table) (reverse rows) (row ∷ [])
    ∙ ap (λ (b : Bool). b || ((row.table == table) || false)) (has_reverse rows table) ∙ ends (has_table rows table) (row.table == table)
  where
    ends : (a b : Bool) → (a || (b || false)) ≡ (b || a)
    ends true true = refl
    ends true false = refl
    ends false true = refl
    ends false false = refl

back_length : (rows : List Item) (i : ℕ) → i < length rows → length (reverse (take i rows)) ≡ i
back_length rows i h = length-reverse (take i rows) ∙ length-take-le i rows (omega arith)

-- the newest row of a table so far
pub name_here : (rows : List Item) (table i : ℕ) (row : Item) → i < length rows → row ≡ get_or rows i row → (row.table == table) ≡ true → row_numbered (i + 1) ≡ name_in (reverse (take (i + 1) rows)) table
name_here rows table i row h e same =
    let n : length (reverse (take i rows)) ≡ i = back_length rows i h in
    let k : i + 1 ≡ suc (length (reverse (take i rows))) = omega arith in
    ap row_numbered k ∙ sym (ap (λ (b : Bool). cond b (row_numbered (suc (length (reverse (take i rows))))) (name_in (reverse (take i rows)) table)) same)
    ∙ sym (ap (λ (l : List Item). name_in l table) (reverse_next rows i row h e))

pub name_there : (rows : List Item) (table i : ℕ) (row : Item) → i < length rows → row ≡ get_or rows i row → (row.table == table) ≡ false → name_in (reverse (take i rows)) table ≡ name_in (reverse (take (i + 1) rows)) table
name_there rows table i row h e other =
    sym (ap (λ (b : Bool). cond b (row_numbered (suc (length (reverse (take i rows))))) (name_in (reverse (take i rows)) table)) other)
    ∙ sym (ap (λ (l : List Item). name_in l table) (reverse_next rows i row h e))

-- one more update
pub chain_next : (rows : List Item) (i : ℕ) (row : Item) (node : NodeData) (nodes : List NodeData) → i < length rows → row ≡ get_or rows i row → node ≡ after i (i + 1) row
    → nodes ≡ reverse (chain (reverse (take i rows))) → nodes ++ node ∷ [] ≡ reverse (chain (reverse (take (i + 1) rows)))
chain_next rows i row node nodes h e made told =
    let older = reverse (take i rows) in
    let n : length older ≡ i = back_length rows i h in
    let one : after i (i + 1) row ≡ after (length older) (suc (length older)) row = ap (λ (k : ℕ). after k (k + 1) row) (sym n) ∙ ap (λ (k : ℕ). after (length older) k row) (add-one (length older)) in
    ap (λ (l : List NodeData). l ++ node ∷ []) told ∙ ap (λ (x : NodeData). reverse (chain older) ++ x ∷ []) (made ∙ one)
    ∙ sym (reverse-append (after (length older) (suc (length older)) row ∷ []) (chain older)) ∙ sym (ap (λ (l : List Item). reverse (chain l)) (reverse_next rows i row h e))

pub copies_next : (count : ℕ) (row item : Item) (items grown : List Item) → item ≡ row → grown ≡ copies count row items → item ∷ grown ≡ copies (count + 1) row items
copies_next count row item items grown same told = ap (λ (x : Item). x ∷ grown) same ∙ ap (λ (l : List Item). row ∷ l) told ∙ sym (ap (λ (k : ℕ). copies k row items) (add-one count))

pub copies_length : (count : ℕ) (row : Item) (items : List Item) → length (copies count row items) ≡ count + length items
copies_length zero row items = omega arith
copies_length (suc count) row items = let e = copies_length count row items in omega arith
