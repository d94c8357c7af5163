-- The request that is read from words is the one that the rules tell.
use Rattle.std.proofs.Common.{◌≡◌, ◌≢◌, ◌∙◌, ◌⊎◌, inl, inr, ap, cond, Bool, true, false, List, [], ◌∷◌, Option, Some, None, option_map, option_and_then, refl, sym, subst, codes}
use Rattle.std.specs.Prelude.{◌↔◌, bytes_eq, slice_get}
use Rattle.std.proofs.lemmas.Slice.Eq.{bytes_eq-Decides}
use Rattle.clap.specs.Words.{App, Row, Text, first_of, matches_of}
use Rattle.lm_ots.specs.declared.ots_type.OtsType.{OtsType}
use Rattle.lms_tree.specs.declared.lms_type.LmsType.{LmsType}
use Rattle.command_words.specs.Requests.{RequestText, heads, check, init, keygen, apply, join, export, query, merge, notes, heads_app, dump_app, directory_app, check_app, keygen_app, apply_app, export_app, query_app, merge_app, height_of, width_of, note_of, Takes, given, Asks, for_heads, for_check, for_dump, for_init, for_keygen, for_apply, for_join, for_export, for_query, for_merge, for_notes}
use Rattle.command_words.specs.Commands.{heads_of, check_of, dump_asked, dump_of, directory_of, keygen_asked, keygen_of, apply_asked, apply_of, export_asked, export_of, query_asked, query_of, merge_with, merge_asked, merge_of, request_named, request_of}
use Rattle.command_words.specs.Words.{is_set, is_taken, rows_given}

-- ---- from the rules

-- by the first word
pub named : {A : Type 0} (read : Text → List Text → Option A) (name : Text) (app : App) (words : List Text) → Takes name app words
    → option_and_then (λ first. read first words) (slice_get words 0) ≡ read name words
named read name app words h = ap (λ (ws : List Text). option_and_then (λ first. read first words) (slice_get ws 0)) h.named

first_is : (name : Text) (app : App) (words : List Text) → Takes name app words → request_of words ≡ request_named name words
first_is name app words h = named request_named name app words h

pub rows_are : (name : Text) (app : App) (words : List Text) → Takes name app words → rows_given app words ≡ Some (matches_of app words)
rows_are name app words h = ap (λ (b : Bool). cond b (Some (matches_of app words)) None) h.taken

-- a directory that a command takes alone
pub alone : (name : Text) (words : List Text) (directory : Text) → Takes name (directory_app name) words → given (directory_app name) words (codes "DIR") ≡ Some directory
    → directory_of name words ≡ Some directory
alone name words directory h g = ap (option_and_then (first_of (codes "DIR"))) (rows_are name (directory_app name) words h) ∙ g

abbrev keygen_from : Option Text → Option LmsType → Option OtsType → Option RequestText
keygen_from directory height width = option_and_then (λ d. option_and_then (λ h. option_map (λ w. keygen d h w) width) height) directory

abbrev apply_from : Option Text → Option (Option Text) → Option RequestText
apply_from directory note = option_and_then (λ d. option_map (λ n. apply d n) note) directory

merged : (first second : Text) → first ≢ second → merge_with first second ≡ Some (merge first second)
merged first second differ =
    let step : (b : Bool) → bytes_eq first second ≡ b → cond b None (Some (merge first second)) ≡ Some (merge first second) = elim [
      | true ↦ λ e. absurd (differ ((bytes_eq-Decides first second).0 e))
      | false ↦ λ e. refl
    ] in
    step (bytes_eq first second) refl

pub by_rule : (words : List Text) (request : RequestText) → Asks words request → request_of words ≡ Some request
by_rule words request (for_heads h) =
    first_is (codes "heads") heads_app words h ∙ ap (option_map (λ (rows : List Row). heads (first_of (codes "DIR") rows))) (rows_are (codes "heads") heads_app words h)
by_rule words request (for_check h) =
    first_is (codes "check") check_app words h ∙ ap (option_map (λ (rows : List Row). check)) (rows_are (codes "check") check_app words h)
by_rule words request (for_dump h) =
    first_is (codes "dump") dump_app words h ∙ ap (option_map dump_asked) (rows_are (codes "dump") dump_app words h)
by_rule words request (for_init directory h g) =
    first_is (codes "init") (directory_app (codes "init")) words h ∙ ap (option_map init) (alone (codes "init") words directory h g)
by_rule words request (for_keygen directory height width h d e f) =
    first_is (codes "keygen") keygen_app words h ∙ ap (option_and_then keygen_asked) (rows_are (codes "keygen") keygen_app words h) ∙ (λ i. keygen_from (d i) (e i) (f i))
by_rule words request (for_apply directory text h d n) =
    first_is (codes "apply") apply_app words h ∙ ap (option_and_then apply_asked) (rows_are (codes "apply") apply_app words h) ∙ (λ i. apply_from (d i) (n i))
by_rule words request (for_join directory h g) =
    first_is (codes "join") (directory_app (codes "join")) words h ∙ ap (option_map join) (alone (codes "join") words directory h g)
by_rule words request (for_export directory h g) =
    first_is (codes "export") export_app words h ∙ ap (option_and_then export_asked) (rows_are (codes "export") export_app words h)
    ∙ ap (option_map (λ (d : Text). export d (is_set (codes "updates") (matches_of export_app words)))) g
by_rule words request (for_query directory text h f s) =
    first_is (codes "query") query_app words h ∙ ap (option_and_then query_asked) (rows_are (codes "query") query_app words h)
    ∙ (λ i. option_and_then (λ d. option_map (λ t. query d t (is_set (codes "json") (matches_of query_app words))) (s i)) (f i))
by_rule words request (for_merge first second h f s differ) =
    first_is (codes "merge") merge_app words h ∙ ap (option_and_then merge_asked) (rows_are (codes "merge") merge_app words h)
    ∙ (λ i. option_and_then (λ a. option_and_then (merge_with a) (s i)) (f i)) ∙ merged first second differ
by_rule words request (for_notes directory h g) =
    first_is (codes "notes") (directory_app (codes "notes")) words h ∙ ap (option_map notes) (alone (codes "notes") words directory h g)

-- ---- to the rules

pub mapped : {A B : Type 0} (g : A → B) (o : Option A) (b : B) → option_map g o ≡ Some b → (a : A) × (o ≡ Some a) × (g a ≡ b)
mapped g None b e = absurd (cc)
mapped g (Some a) b e = (a, refl, cc)

pub chained : {A B : Type 0} (f : A → Option B) (o : Option A) (b : B) → option_and_then f o ≡ Some b → (a : A) × (o ≡ Some a) × (f a ≡ Some b)
chained f None b e = absurd (cc)
chained f (Some a) b e = (a, refl, e)

rows_taken : (app : App) (words : List Text) (rows : List Row) → rows_given app words ≡ Some rows → (is_taken app words ≡ true) × (rows ≡ matches_of app words)
rows_taken app words rows e =
    let step : (b : Bool) → is_taken app words ≡ b → cond b (Some (matches_of app words)) None ≡ Some rows → (is_taken app words ≡ true) × (rows ≡ matches_of app words) = elim [
      | true ↦ λ t h. (t, cc)
      | false ↦ λ t h. absurd (cc)
    ] in
    step (is_taken app words) refl e

pub takes : (name : Text) (app : App) (words rest : List Text) (rows : List Row) → words ≡ name ∷ rest → rows_given app words ≡ Some rows → Takes name app words × (rows ≡ matches_of app words)
takes name app words rest rows n e = let t = rows_taken app words rows e in (record { rest = rest; named = n; taken = t.0 }, t.1)

from_heads : (words rest : List Text) (request : RequestText) → words ≡ codes "heads" ∷ rest → heads_of words ≡ Some request → Asks words request
from_heads words rest request n e =
    let made : List Row → RequestText = λ rows. heads (first_of (codes "DIR") rows) in
    let m = mapped made (rows_given heads_app words) request e in
    let t = takes (codes "heads") heads_app words rest m.0 n m.1 in
    subst (λ (r : RequestText). Asks words r) (ap made (sym t.1) ∙ m.2) (for_heads t.0)

from_dump : (words rest : List Text) (request : RequestText) → words ≡ codes "dump" ∷ rest → dump_of words ≡ Some request → Asks words request
from_dump words rest request n e =
    let m = mapped dump_asked (rows_given dump_app words) request e in
    let t = takes (codes "dump") dump_app words rest m.0 n m.1 in
    subst (λ (r : RequestText). Asks words r) (ap dump_asked (sym t.1) ∙ m.2) (for_dump t.0)

pub from_one : {A : Type 0} (IsAsked : A → Type 0) (name : Text) (make : Text → A) (words rest : List Text) (request : A) → words ≡ name ∷ rest
    → ((directory : Text) → Takes name (directory_app name) words → given (directory_app name) words (codes "DIR") ≡ Some directory → IsAsked (make directory))
    → option_map make (directory_of name words) ≡ Some request → IsAsked request
from_one IsAsked name make words rest request n rule e =
    let m = mapped make (directory_of name words) request e in
    let d = chained (first_of (codes "DIR")) (rows_given (directory_app name) words) m.0 m.1 in
    let t = takes name (directory_app name) words rest d.0 n d.1 in
    subst IsAsked m.2 (rule m.0 t.0 (ap (first_of (codes "DIR")) (sym t.1) ∙ d.2))

from_check : (words rest : List Text) (request : RequestText) → words ≡ codes "check" ∷ rest → check_of words ≡ Some request → Asks words request
from_check words rest request n e =
    let m = mapped (λ (rows : List Row). check) (rows_given check_app words) request e in
    let t = takes (codes "check") check_app words rest m.0 n m.1 in
    subst (λ (r : RequestText). Asks words r) m.2 (for_check t.0)

from_keygen : (words rest : List Text) (request : RequestText) → words ≡ codes "keygen" ∷ rest → keygen_of words ≡ Some request → Asks words request
from_keygen words rest request n e =
    let k = chained keygen_asked (rows_given keygen_app words) request e in
    let t = takes (codes "keygen") keygen_app words rest k.0 n k.1 in
    let height : Text → Option RequestText = λ d. option_and_then (λ h. option_map (λ w. keygen d h w) (width_of (first_of (codes "width") k.0))) (height_of (first_of (codes "height") k.0)) in
    let d = chained height (first_of (codes "DIR") k.0) request k.2 in
    let width : LmsType → Option RequestText = λ h. option_map (λ w. keygen d.0 h w) (width_of (first_of (codes "width") k.0)) in
    let h = chained width (height_of (first_of (codes "height") k.0)) request d.2 in
    let w = mapped (λ (w : OtsType). keygen d.0 h.0 w) (width_of (first_of (codes "width") k.0)) request h.2 in
    let of = sym t.1 in
    subst (λ (r : RequestText). Asks words r) w.2
    (for_keygen d.0 h.0 w.0 t.0 (ap (first_of (codes "DIR")) of ∙ d.1) (ap (λ (rows : List Row). height_of (first_of (codes "height") rows)) of ∙ h.1)
    (ap (λ (rows : List Row). width_of (first_of (codes "width") rows)) of ∙ w.1))

from_apply : (words rest : List Text) (request : RequestText) → words ≡ codes "apply" ∷ rest → apply_of words ≡ Some request → Asks words request
from_apply words rest request n e =
    let k = chained apply_asked (rows_given apply_app words) request e in
    let t = takes (codes "apply") apply_app words rest k.0 n k.1 in
    let asked : Text → Option RequestText = λ d. option_map (λ note. apply d note) (note_of (first_of (codes "note") k.0)) in
    let d = chained asked (first_of (codes "DIR") k.0) request k.2 in
    let x = mapped (λ (note : Option Text). apply d.0 note) (note_of (first_of (codes "note") k.0)) request d.2 in
    subst (λ (r : RequestText). Asks words r) x.2
    (for_apply d.0 x.0 t.0 (ap (first_of (codes "DIR")) (sym t.1) ∙ d.1) (ap (λ (rows : List Row). note_of (first_of (codes "note") rows)) (sym t.1) ∙ x.1))

from_export : (words rest : List Text) (request : RequestText) → words ≡ codes "export" ∷ rest → export_of words ≡ Some request → Asks words request
from_export words rest request n e =
    let k = chained export_asked (rows_given export_app words) request e in
    let t = takes (codes "export") export_app words rest k.0 n k.1 in
    let d = mapped (λ (d : Text). export d (is_set (codes "updates") k.0)) (first_of (codes "DIR") k.0) request k.2 in
    subst (λ (r : RequestText). Asks words r) (ap (λ (rows : List Row). export d.0 (is_set (codes "updates") rows)) (sym t.1) ∙ d.2)
    (for_export d.0 t.0 (ap (first_of (codes "DIR")) (sym t.1) ∙ d.1))

from_query : (words rest : List Text) (request : RequestText) → words ≡ codes "query" ∷ rest → query_of words ≡ Some request → Asks words request
from_query words rest request n e =
    let k = chained query_asked (rows_given query_app words) request e in
    let t = takes (codes "query") query_app words rest k.0 n k.1 in
    let asked : Text → Option RequestText = λ d. option_map (λ text. query d text (is_set (codes "json") k.0)) (first_of (codes "TEXT") k.0) in
    let d = chained asked (first_of (codes "DIR") k.0) request k.2 in
    let x = mapped (λ (text : Text). query d.0 text (is_set (codes "json") k.0)) (first_of (codes "TEXT") k.0) request d.2 in
    subst (λ (r : RequestText). Asks words r) (ap (λ (rows : List Row). query d.0 x.0 (is_set (codes "json") rows)) (sym t.1) ∙ x.2)
    (for_query d.0 x.0 t.0 (ap (first_of (codes "DIR")) (sym t.1) ∙ d.1) (ap (first_of (codes "TEXT")) (sym t.1) ∙ x.1))

from_pair : (first second : Text) (request : RequestText) → merge_with first second ≡ Some request → (first ≢ second) × (merge first second ≡ request)
from_pair first second request e =
    let step : (b : Bool) → bytes_eq first second ≡ b → cond b None (Some (merge first second)) ≡ Some request → (first ≢ second) × (merge first second ≡ request) = elim [
      | true ↦ λ t h. absurd (cc)
      | false ↦ λ t h. (λ same. let yes : bytes_eq first second ≡ true = (bytes_eq-Decides first second).1 same in cc, cc)
    ] in
    step (bytes_eq first second) refl e

from_merge : (words rest : List Text) (request : RequestText) → words ≡ codes "merge" ∷ rest → merge_of words ≡ Some request → Asks words request
from_merge words rest request n e =
    let k = chained merge_asked (rows_given merge_app words) request e in
    let t = takes (codes "merge") merge_app words rest k.0 n k.1 in
    let a = chained (λ (first : Text). option_and_then (merge_with first) (first_of (codes "OTHER") k.0)) (first_of (codes "DIR") k.0) request k.2 in
    let b = chained (merge_with a.0) (first_of (codes "OTHER") k.0) request a.2 in
    let p = from_pair a.0 b.0 request b.2 in
    subst (λ (r : RequestText). Asks words r) p.1
    (for_merge a.0 b.0 t.0 (ap (first_of (codes "DIR")) (sym t.1) ∙ a.1) (ap (first_of (codes "OTHER")) (sym t.1) ∙ b.1) p.0)

-- one of two by a test
chosen : {A : Type 0} (b : Bool) (x y : Option A) (request : A) → cond b x y ≡ Some request → ((b ≡ true) × (x ≡ Some request)) ⊎ ((b ≡ false) × (y ≡ Some request))
chosen true x y request e = inl (refl, e)
chosen false x y request e = inr (refl, e)

-- a command where the first word is its name, and otherwise another
pub either : {A Asked : Type 0} (first name : Text) (rest : List Text) (request : A) (here others : Option A)
    → (first ∷ rest ≡ name ∷ rest → here ≡ Some request → Asked) → (others ≡ Some request → Asked)
    → cond (bytes_eq first name) here others ≡ Some request → Asked
either first name rest request here others f g e = elim (chosen (bytes_eq first name) here others request e) [
  | inl h ↦ f (ap (λ (w : Text). w ∷ rest) ((bytes_eq-Decides first name).0 h.0)) h.1
  | inr h ↦ g h.1
]

told : (first : Text) (rest : List Text) (request : RequestText) → request_named first (first ∷ rest) ≡ Some request → Asks (first ∷ rest) request
told first rest request =
    let words : List Text = first ∷ rest in
    either first (codes "heads") rest request _ _ (λ n. from_heads words rest request n)
    (either first (codes "check") rest request _ _ (λ n. from_check words rest request n)
    (either first (codes "dump") rest request _ _ (λ n. from_dump words rest request n)
    (either first (codes "init") rest request _ _ (λ n. from_one (λ (r : RequestText). Asks words r) (codes "init") init words rest request n for_init)
    (either first (codes "keygen") rest request _ _ (λ n. from_keygen words rest request n)
    (either first (codes "apply") rest request _ _ (λ n. from_apply words rest request n)
    (either first (codes "join") rest request _ _ (λ n. from_one (λ (r : RequestText). Asks words r) (codes "join") join words rest request n for_join)
    (either first (codes "export") rest request _ _ (λ n. from_export words rest request n)
    (either first (codes "query") rest request _ _ (λ n. from_query words rest request n)
    (either first (codes "merge") rest request _ _ (λ n. from_merge words rest request n)
    (either first (codes "notes") rest request _ _ (λ n. from_one (λ (r : RequestText). Asks words r) (codes "notes") notes words rest request n for_notes) (λ e. absurd (cc))))))))))))

pub to_rule : (words : List Text) (request : RequestText) → request_of words ≡ Some request → Asks words request
to_rule [] request e = absurd (cc)
to_rule (first ∷ rest) request e = told first rest request e

pub are_by_rule : (words : List Text) (request : RequestText) → Asks words request ↔ (request_of words ≡ Some request)
are_by_rule words request = (by_rule words request, to_rule words request)

pub one_only : (words : List Text) (request other : RequestText) → Asks words request → Asks words other → request ≡ other
one_only words request other h k = let a = by_rule words request h in let b = by_rule words other k in cc
