-- Each column has one author, and each box is of a node that was placed.
use Rattle.std.proofs.Common.{◌≡◌, ◌⊎◌, inl, inr, ℕ, ◌+◌, ◌<◌, ◌≤◌, ◌==◌, ◌&&◌, Bool, true, false, cond, List, [], ◌∷◌, ◌++◌, refl, sym, ap, ◌∙◌, subst, arith, Contains, Option, Some, None, find, option_map, bytes_eq}
use Rattle.std.specs.List.{fold, AllByRecursion}
use Rattle.std.specs.Option.{unwrap_or}
use Rattle.std.proofs.lemmas.Bool.{and_parts, eqb-true}
use Rattle.std.proofs.lemmas.List.Elements.{Contains-append_cases}
use Rattle.std.proofs.lemmas.Slice.Eq.{bytes_eq-Decides}
use Rattle.update_model.specs.declared.author_key.AuthorKey.{AuthorKey}
use Rattle.table_model.specs.Verdicts.{same_author}
use Rattle.table_model.proofs.Each.{each-append}
use Rattle.table_model.proofs.Members.{contains_cases, find_finds, none_in}
use Rattle.graph_drawing.specs.declared.placed.Placed.{Placed}
use Rattle.graph_drawing.specs.declared.spot.Spot.{Spot}
use Rattle.graph_drawing.specs.Boxes.{Arranged, arrange, arranged, is_in_lane, lane_of, spot_of, with_spot}
use Rattle.graph_drawing.specs.Told.{Told}

-- ---- what is so of each node is so of each box

pub each_box : (P : Placed → Type 0) (told : Told) (before : Arranged) (placed : List Placed)
    → AllByRecursion (λ spot. P (record { depth = spot.depth; node = spot.node })) before.spots → AllByRecursion P placed
    → AllByRecursion (λ spot. P (record { depth = spot.depth; node = spot.node })) (fold (arrange told) before placed).spots
each_box P told before [] h all = h
each_box P told before (next ∷ placed) h all =
    each_box P told (arrange told before next) placed
    (each-append (λ (spot : Spot). P (record { depth = spot.depth; node = spot.node })) before.spots (spot_of told before.spots before.width next ∷ []) h (all.0, tt)) all.1

-- ---- one author a column

author_from_same : (a b : AuthorKey) → same_author a b ≡ true → a ≡ b
author_from_same a b e =
    let one = and_parts ((a.lms == b.lms) && (a.ots == b.ots) && bytes_eq a.ident b.ident) (bytes_eq a.root b.root) e in
    let two = and_parts ((a.lms == b.lms) && (a.ots == b.ots)) (bytes_eq a.ident b.ident) one.0 in
    let three = and_parts (a.lms == b.lms) (a.ots == b.ots) two.0 in
    let lms : a.lms ≡ b.lms = eqb-true a.lms b.lms three.0 in
    let ots : a.ots ≡ b.ots = eqb-true a.ots b.ots three.1 in
    let ident : a.ident ≡ b.ident = (bytes_eq-Decides a.ident b.ident).0 two.1 in
    let root : a.root ≡ b.root = (bytes_eq-Decides a.root b.root).0 one.1 in
    λ i. record { lms = lms i; ots = ots i; ident = ident i; root = root i }

-- boxes stand in columns that there are, and those of one column have one author
pub record OneAuthorEach (before : Arranged) : Type 0 where
  pub low : (spot : Spot) → Contains before.spots spot → spot.column < before.width
  pub alike : (spot other : Spot) → Contains before.spots spot → Contains before.spots other → spot.column ≡ other.column → spot.node.author ≡ other.node.author

-- a box stands in a new column, or in that of another one of its author
abbrev StandsRight : Arranged → Spot → Type 0
StandsRight before spot = (spot.column ≡ before.width) ⊎ ((other : Spot) × Contains before.spots other × (other.column ≡ spot.column) × (other.node.author ≡ spot.node.author))

above : (column width : ℕ) → column ≤ width → (column < cond (column == width) (width + 1) width) × (width ≤ cond (column == width) (width + 1) width)
above column width low =
    let step : (b : Bool) → (column == width) ≡ b → (column < cond b (width + 1) width) × (width ≤ cond b (width + 1) width) = elim [
      | true ↦ λ e. (omega arith, omega arith)
      | false ↦ λ e. (grind arith, omega arith)
    ] in
    step (column == width) refl

-- the column of a box that is put
column_low : (before : Arranged) (spot : Spot) → OneAuthorEach before → StandsRight before spot → spot.column ≤ before.width
column_low before spot kept (inl new) = omega (arith, new)
column_low before spot kept (inr (other, there, same, by)) = let low = kept.low other there in omega (arith, low, same)

-- of a box that stood, and the new one
new_alike : (before : Arranged) (spot other : Spot) → OneAuthorEach before → StandsRight before spot → Contains before.spots other → other.column ≡ spot.column → other.node.author ≡ spot.node.author
new_alike before spot other kept (inl new) there same = let low = kept.low other there in absurd (omega (arith, low, same, new))
new_alike before spot other kept (inr (third, stands, column, by)) there same = kept.alike other third there stands (same ∙ sym column) ∙ by

last_cases : (before : Arranged) (spot other : Spot) → Contains (before.spots ++ spot ∷ []) other → Contains before.spots other ⊎ (spot ≡ other)
last_cases before spot other c = elim (Contains-append_cases before.spots (spot ∷ []) other c) [
  | inl there ↦ inl there
  | inr last ↦ elim (contains_cases spot other [] last) [ inl here ↦ inr here | inr none ↦ absurd (none_in other none) ]
]

put_kept : (before : Arranged) (spot : Spot) → OneAuthorEach before → StandsRight before spot → OneAuthorEach (with_spot before spot)
put_kept before spot kept right =
    let up = above spot.column before.width (column_low before spot kept right) in
    record {
      low = λ other c. elim (last_cases before spot other c) [
        | inl there ↦ let low = kept.low other there in omega (arith, low, up.1)
        | inr here ↦ subst (λ (s : Spot). s.column < (with_spot before spot).width) here up.0
      ];
      alike = λ one other c d same. elim (last_cases before spot one c) [
        | inl there ↦ elim (last_cases before spot other d) [
          | inl too ↦ kept.alike one other there too same
          | inr last ↦ new_alike before spot one kept right there (same ∙ sym (ap (λ (s : Spot). s.column) last)) ∙ ap (λ (s : Spot). s.node.author) last
        ]
        | inr here ↦ elim (last_cases before spot other d) [
          | inl too ↦ sym (new_alike before spot other kept right too (sym same ∙ sym (ap (λ (s : Spot). s.column) here)) ∙ ap (λ (s : Spot). s.node.author) here)
          | inr last ↦ sym (ap (λ (s : Spot). s.node.author) here) ∙ ap (λ (s : Spot). s.node.author) last
        ]
      ];
    }

stands_right : (told : Told) (before : Arranged) (next : Placed) → StandsRight before (spot_of told before.spots before.width next)
stands_right told before next =
    let author = next.node.author in
    let lane = lane_of before.spots next in
    let spot = spot_of told before.spots before.width next in
    let step : (found : Option Spot) → find (is_in_lane author lane) before.spots ≡ found → unwrap_or (option_map (λ (s : Spot). s.column) found) before.width ≡ spot.column → StandsRight before spot = elim [
      | None ↦ λ is column. inl (sym column)
      | Some other ↦ λ is column.
          let there = find_finds (is_in_lane author lane) before.spots other is in
          inr (other, there.0, column, author_from_same other.node.author author (and_parts (other.lane == lane) _ there.1).1)
    ] in
    step (find (is_in_lane author lane) before.spots) refl refl

all_kept : (told : Told) (before : Arranged) (placed : List Placed) → OneAuthorEach before → OneAuthorEach (fold (arrange told) before placed)
all_kept told before [] kept = kept
all_kept told before (next ∷ placed) kept =
    all_kept told (arrange told before next) placed (put_kept before (spot_of told before.spots before.width next) kept (stands_right told before next))

pub one_author : (told : Told) (placed : List Placed) (spot other : Spot) → Contains (arranged told placed).spots spot → Contains (arranged told placed).spots other
    → spot.column ≡ other.column → spot.node.author ≡ other.node.author
one_author told placed spot other c d same =
    (all_kept told (record { spots = []; width = 0 }) placed (record { low = λ s none. absurd (none_in s none); alike = λ s t none too e. absurd (none_in s none) })).alike spot other c d same
