-- What a CHECK is to contracts: its question, without where that lies in memory, and its line.
use Rattle.std.specs.Prelude.{◌≡◌, ℕ, Bool, List, refl}
use Rattle.std.specs.List.{list_all}
use Rattle.std.specs.Coded.{Coded, code_by, coded×, coded_ℕ, coded_list}
use base.Stored.{Gv, gnum, gcons}
use Rattle.update_model.specs.declared.value.Value.{Value}
use Rattle.row_check.specs.contracts.cmp.Cmp as cmp
use Rattle.row_check.specs.contracts.term.Term as term
use Rattle.row_check.specs.Trees.{Tree, Both, Either, Negation, Comparison, Absence, Check, holds_tree}

-- a CHECK: its question, and the line that declares it
pub record CheckData : Type 0 where
  pub tree : Tree
  pub line : ℕ

-- a question as a tree of numbers, which tells questions apart
abbrev pub tree_code : Tree → Gv
tree_code (Both a b) = gcons (gnum 0) (gcons (tree_code a) (tree_code b))
tree_code (Either a b) = gcons (gnum 1) (gcons (tree_code a) (tree_code b))
tree_code (Negation a) = gcons (gnum 2) (tree_code a)
tree_code (Comparison l c r) = gcons (gnum 3) (gcons (term.the_row.coded.code l) (gcons (cmp.the_row.coded.code c) (term.the_row.coded.code r)))
tree_code (Absence n) = gcons (gnum 4) (gnum n)
tree_code (Check n cs) = gcons (gnum 5) (gcons (gnum n) ((coded_list coded_ℕ).code cs))

pub tree_inj : (x y : Tree) → tree_code x ≡ tree_code y → x ≡ y
tree_inj (Both a b) (Both c d) h =
    let p : tree_code a ≡ tree_code c = cc in let q : tree_code b ≡ tree_code d = cc in let i = tree_inj a c p in let j = tree_inj b d q in cc
tree_inj (Either a b) (Either c d) h =
    let p : tree_code a ≡ tree_code c = cc in let q : tree_code b ≡ tree_code d = cc in let i = tree_inj a c p in let j = tree_inj b d q in cc
tree_inj (Negation a) (Negation c) h = let p : tree_code a ≡ tree_code c = cc in let i = tree_inj a c p in cc
tree_inj (Comparison l c r) (Comparison m d s) h =
    let p : term.the_row.coded.code l ≡ term.the_row.coded.code m = cc in
    let q : cmp.the_row.coded.code c ≡ cmp.the_row.coded.code d = cc in
    let o : term.the_row.coded.code r ≡ term.the_row.coded.code s = cc in
    let i = term.the_row.coded.inj l m p in let j = cmp.the_row.coded.inj c d q in let k = term.the_row.coded.inj r s o in cc
tree_inj (Absence n) (Absence m) h = cc
tree_inj (Check n cs) (Check m ds) h =
    let p : (coded_list coded_ℕ).code cs ≡ (coded_list coded_ℕ).code ds = cc in let i = (coded_list coded_ℕ).inj cs ds p in cc
tree_inj x y h = absurd cc

abbrev pub coded_tree : Coded Tree
coded_tree = record { code = tree_code; inj = tree_inj }

abbrev pub coded_check : Coded CheckData
coded_check = code_by (Tree × ℕ) (coded× coded_tree coded_ℕ) (λ c. (c.tree, c.line)) (λ p. record { tree = p.0; line = p.1 }) (λ _. refl)

-- whether every CHECK is true of a row
abbrev pub checks_hold : (ℕ → List Value → Bool) → List Value → List CheckData → Bool
checks_hold ask row checks = list_all (λ check. holds_tree ask row check.tree) checks
