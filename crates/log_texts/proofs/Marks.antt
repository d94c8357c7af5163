-- Maps that are filled from the end of a list.
use Rattle.std.proofs.Common.{◌≡◌, Bor, ℕ, suc, ◌<◌, ◌≤◌, ◌-◌, Bool, true, false, cond, ◌||◌, List, ◌∷◌, length, drop, get_or, refl, sym, ◌∙◌, ap, arith, Some, option_map, find, take, Vec}
use Rattle.std.specs.declared.alloc.Global.{Global}
use Rattle.std.specs.BTreeMap.{get, BTreeMap, Updates}
use Rattle.std.specs.Cmp.Lexicographic.{slice_cmp}
use Rattle.std.specs.List.{list_any}
use Rattle.std.specs.declared.cmp.Ordering.{Ordering}
use Rattle.std.specs.Ordering.{is_eq, nat_cmp}
use Rattle.std.specs.Option.{is_some, option_copied}
use Rattle.std.proofs.Math.Seq.{drop-cons}
use Rattle.update_model.specs.declared.update_id.UpdateId.{UpdateId}
use Rattle.update_model.specs.Entry.{id_cmp, same_id}
use Rattle.table_model.specs.declared.void_line.VoidLine.{VoidLine}
use Rattle.graph_drawing.specs.declared.note_line.NoteLine.{NoteLine}
use Rattle.table_text.specs.Names.{id_text}
use Rattle.log_texts.specs.Digits.{starts_as}
use Rattle.graph_drawing.specs.Boxes.{is_head, note_of, reason_of}

-- what is left of a list, one step further to its front
pub from_before : {X : Type 0} (l : List X) (p : ℕ) (d : X) → 0 < p → p ≤ length l → drop (p - 1) l ≡ get_or l (p - 1) d ∷ drop p l
from_before l p d some within =
    let low : p - 1 < length l = omega (arith, some, within) in
    let next : suc (p - 1) ≡ p = omega (arith, some) in
    drop-cons l (p - 1) d low ∙ ap (λ k. get_or l (p - 1) d ∷ drop k l) next

-- one more head is known
pub heads_next : (heads : List UpdateId) (p : ℕ) (d : UpdateId) (before after : BTreeMap UpdateId (Unit {0})) → 0 < p → p ≤ length heads
    → ((id : UpdateId) → is_some (get id_cmp before id) ≡ is_head (drop p heads) id) → Updates id_cmp before after (get_or heads (p - 1) d) (Some tt)
    → (id : UpdateId) → is_some (get id_cmp after id) ≡ is_head (drop (p - 1) heads) id
heads_next heads p d before after some within known updates id =
    ap is_some (updates.0 id) ∙ by (same_id (get_or heads (p - 1) d) id) ∙ sym (ap (λ l. is_head l id) (from_before heads p d some within))
  where
    by : (b : Bool) → is_some (cond b (Some tt) (get id_cmp before id)) ≡ (b || is_head (drop p heads) id)
    by true = refl
    by false = known id

-- one more reason is known
pub reasons_next : (voids : List VoidLine) (p : ℕ) (d : VoidLine) (before after : BTreeMap UpdateId ℕ) → 0 < p → p ≤ length voids
    → ((id : UpdateId) → get id_cmp before id ≡ reason_of (drop p voids) id) → Updates id_cmp before after (get_or voids (p - 1) d).id (Some (get_or voids (p - 1) d).reason)
    → (id : UpdateId) → get id_cmp after id ≡ reason_of (drop (p - 1) voids) id
reasons_next voids p d before after some within known updates id =
    updates.0 id ∙ by (same_id (get_or voids (p - 1) d).id id) ∙ sym (ap (λ l. reason_of l id) (from_before voids p d some within))
  where
    by : (b : Bool) → cond b (Some (get_or voids (p - 1) d).reason) (get id_cmp before id) ≡ option_map (λ (line : VoidLine). line.reason) (cond b (Some (get_or voids (p - 1) d)) (find (λ (line : VoidLine). same_id line.id id) (drop p voids)))
    by true = refl
    by false = known id

-- one more note is known, which is lent
pub notes_next : (notes : List NoteLine) (p : ℕ) (line : NoteLine) (before after : BTreeMap UpdateId (Bor (List ℕ))) (text : Bor (List ℕ)) → 0 < p → p ≤ length notes → line ≡ get_or notes (p - 1) line
    → ((id : UpdateId) → option_copied (get id_cmp before id) ≡ note_of (drop p notes) id) → Updates id_cmp before after line.id (Some text) → text.now ≡ line.text
    → (id : UpdateId) → option_copied (get id_cmp after id) ≡ note_of (drop (p - 1) notes) id
notes_next notes p line before after text some within at known updates is id =
    let front : drop (p - 1) notes ≡ line ∷ drop p notes = from_before notes p line some within ∙ ap (λ l. l ∷ drop p notes) (sym at) in
    ap option_copied (updates.0 id) ∙ by (same_id line.id id) ∙ sym (ap (λ l. note_of l id) front)
  where
    by : (b : Bool) → option_copied (cond b (Some text) (get id_cmp before id)) ≡ option_map (λ (found : NoteLine). found.text) (cond b (Some line) (find (λ (other : NoteLine). same_id other.id id) (drop p notes)))
    by true = ap Some is
    by false = known id

-- the order of texts
abbrev pub text_cmp : Vec ℕ Global → Vec ℕ Global → Ordering
text_cmp a b = slice_cmp nat_cmp a.items b.items

-- one more start of an id is known
pub starts_next : (digits : ℕ) (ids : List UpdateId) (p : ℕ) (d : UpdateId) (before after : BTreeMap (Vec ℕ Global) (Unit {0})) (start : Vec ℕ Global) → 0 < p → p ≤ length ids
    → start.items ≡ take digits (id_text (get_or ids (p - 1) d)) → ((text : Vec ℕ Global) → is_some (get text_cmp before text) ≡ list_any (starts_as digits text.items) (drop p ids)) → Updates text_cmp before after start (Some tt)
    → (text : Vec ℕ Global) → is_some (get text_cmp after text) ≡ list_any (starts_as digits text.items) (drop (p - 1) ids)
starts_next digits ids p d before after start some within is known updates text =
    ap is_some (updates.0 text) ∙ by (is_eq (text_cmp start text)) ∙ (λ i. is_eq (slice_cmp nat_cmp (is i) text.items) || list_any (starts_as digits text.items) (drop p ids))
    ∙ sym (ap (list_any (starts_as digits text.items)) (from_before ids p d some within))
  where
    by : (b : Bool) → is_some (cond b (Some tt) (get text_cmp before text)) ≡ (b || list_any (starts_as digits text.items) (drop p ids))
    by true = refl
    by false = known text
