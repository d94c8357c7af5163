-- Where nothing is wrong with the words of a condition, each of them that is a column is there, and there are not too many.
use Rattle.std.proofs.Common.{◌≡◌, ℕ, ◌+◌, ◌≤◌, Bool, true, false, cond, not, ◌&&◌, List, [], ◌∷◌, ◌++◌, length, Option, Some, None, is_some, unwrap_or, refl, sym, subst, bytes_eq, arith}
use Rattle.std.specs.Prelude.{All, option_map, nat_lt}
use Rattle.std.specs.List.{AllByRecursion, Contains}
use Rattle.std.proofs.lemmas.List.Elements.{All-cons, Contains-append_left, Contains-push}
use Rattle.std.proofs.lemmas.Map.Views.{Contains-from_any}
use Rattle.std.proofs.lemmas.Bool.{ltb-false}
use Rattle.std.proofs.lemmas.Slice.Eq.{bytes_eq-Decides}
use Rattle.row_check.specs.declared.kind.Kind.{Kind}
use Rattle.expression_text.specs.declared.token.Token.{Token}
use Rattle.expression_text.specs.declared.token.Token.TheVariants as token
use Rattle.expression_text.specs.Columns.{IsKnown}
use Rattle.schema.specs.declared.table_def.TableDef.{TableDef}
use Rattle.query.specs.declared.source.Slot.{Slot}
use Rattle.query.specs.declared.stop.Wrong.{Wrong}
use Rattle.query.specs.declared.fault.QueryKind.TheVariants.{UnknownColumn, TypesDiffer, TooLong}
use Rattle.query.specs.declared.turn.Stand.{Stand}
use Rattle.query.specs.declared.turn.Expected.{Expected}
use Rattle.query.specs.Columns.{kind_named, is_among, with_name, with_names, names_of, columns_of, slot_in, split_dot}
use Rattle.query.specs.Conditions.{begun, crowded_at, is_unknown, misfit, misfits, place_seen, kind_of, left_after, misfit_from, misfit_in, next_stand, or_else, wrong_in}
use Rattle.query.specs.Grammar.{wrong_at}
use Rattle.query.specs.Pieces.{is_text}

or_none : (a b : Option Wrong) → or_else a b ≡ None → (a ≡ None) × (b ≡ None)
or_none (Some wrong) b e = absurd (cc)
or_none None b e = (refl, e)

misfit_known : (kinds : List ℕ → Option Kind) (now : Expected) (left : Option Kind) (at : ℕ) (word : Token) → misfit kinds now left at word ≡ None → is_unknown kinds word ≡ false
misfit_known kinds now left at word e =
    let step : (b : Bool) → cond b (Some (wrong_at UnknownColumn at)) (cond (misfits now left (kind_of kinds word) word) (Some (wrong_at TypesDiffer (place_seen now at))) None) ≡ None → b ≡ false = elim [
      | true ↦ λ h. absurd (cc)
      | false ↦ λ h. refl
    ] in
    step (is_unknown kinds word) e

words_known : (kinds : List ℕ → Option Kind) (stand : Stand) (left : Option Kind) (at : ℕ) (words : List Token) → misfit_from kinds stand left at words ≡ None
    → AllByRecursion (λ word. is_unknown kinds word ≡ false) words
words_known kinds stand left at [] e = tt
words_known kinds stand left at (word ∷ words) e =
    let p = or_none (misfit kinds stand.turn left at word) (misfit_from kinds (unwrap_or (next_stand stand word) stand) (left_after stand.turn left (kind_of kinds word)) (at + 1) words) e in
    (misfit_known kinds stand.turn left at word p.0, words_known kinds (unwrap_or (next_stand stand word) stand) (left_after stand.turn left (kind_of kinds word)) (at + 1) words p.1)

-- a column that is there has a name that is a text
named_text : (tables : List TableDef) (table : ℕ) (name : List ℕ) → not (is_some (kind_named tables table name)) ≡ false → is_text name ≡ true
named_text tables table name e =
    let step : (b : Bool) (found : Option Slot) → not (is_some (option_map (λ (slot : Slot). slot.kind) (cond b found None))) ≡ false → b ≡ true = elim [
      | true ↦ λ found h. refl
      | false ↦ λ found h. absurd (cc)
    ] in
    step (is_text name) (slot_in tables (columns_of tables table) name (split_dot name)) e

-- ---- a name that is there stays, and each column that is there is named

same_bytes : (xs ys : List ℕ) → bytes_eq xs ys ≡ true → xs ≡ ys
same_bytes xs ys e = (bytes_eq-Decides xs ys).0 e

kept_with : (names : List (List ℕ)) (word : Token) (name : List ℕ) → Contains names name → Contains (with_name names word) name
kept_with names (token.Column new) name c =
    let step : (b : Bool) → Contains (cond b (names ++ new ∷ []) names) name = elim [ true ↦ Contains-append_left names (new ∷ []) name c | false ↦ c ] in
    step (is_text new && not (is_among names new))
kept_with names other name c = c

kept : (names : List (List ℕ)) (words : List Token) (name : List ℕ) → Contains names name → Contains (with_names names words) name
kept names [] name c = c
kept names (word ∷ words) name c = kept (with_name names word) words name (kept_with names word name c)

known_kept : (names : List (List ℕ)) (words : List Token) (word : Token) → IsKnown names word → IsKnown (with_names names words) word
known_kept names words (token.Column name) c = kept names words name c
known_kept names words other c = tt

module _ (tables : List TableDef) (table : ℕ) where
  word_known : (names : List (List ℕ)) (word : Token) → is_unknown (kind_named tables table) word ≡ false → IsKnown (with_name names word) word
  word_known names (token.Column name) e =
      let step : (b : Bool) → is_among names name ≡ b → Contains (cond (true && not b) (names ++ name ∷ []) names) name = elim [
        | true ↦ λ h. Contains-from_any same_bytes name names h
        | false ↦ λ h. Contains-push names name
      ] in
      subst (λ (b : Bool). Contains (cond (b && not (is_among names name)) (names ++ name ∷ []) names) name) (sym (named_text tables table name e))
      (step (is_among names name) refl)
  word_known names other e = tt

  all_known : (names : List (List ℕ)) (words : List Token) → AllByRecursion (λ word. is_unknown (kind_named tables table) word ≡ false) words
      → All (IsKnown (with_names names words)) words
  all_known names [] h = λ k d low. absurd (omega arith)
  all_known names (word ∷ words) h =
      All-cons (IsKnown (with_names names (word ∷ words))) word words
      (known_kept (with_name names word) words word (word_known names word h.0))
      (all_known (with_name names word) words h.1)

-- ---- nothing is wrong, so each word that is a column is there, and there are not too many

pub right_known : (tables : List TableDef) (table at : ℕ) (words : List Token) → wrong_in (kind_named tables table) at words ≡ None → All (IsKnown (names_of words)) words
right_known tables table at words e =
    let p = or_none (misfit_in (kind_named tables table) at words) (crowded_at at words) e in
    all_known tables table [] words (words_known (kind_named tables table) begun None at words p.0)

few_named : (at : ℕ) (words : List Token) → crowded_at at words ≡ None → length (names_of words) ≤ 256
few_named at words e =
    let step : (b : Bool) → nat_lt 256 (length (names_of words)) ≡ b → cond b (Some (wrong_at TooLong (at + length words))) None ≡ None → length (names_of words) ≤ 256 = elim [
      | true ↦ λ h f. absurd (cc)
      | false ↦ λ h f. ltb-false 256 (length (names_of words)) h
    ] in
    step (nat_lt 256 (length (names_of words))) refl e

pub right_few : (tables : List TableDef) (table at : ℕ) (words : List Token) → wrong_in (kind_named tables table) at words ≡ None → length (names_of words) ≤ 256
right_few tables table at words e = few_named at words (or_none (misfit_in (kind_named tables table) at words) (crowded_at at words) e).1
