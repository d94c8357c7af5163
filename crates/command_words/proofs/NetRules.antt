-- The request for a net that is read from words is the one that the rules tell.
use Rattle.std.proofs.Common.{◌≡◌, ◌∙◌, ◌+◌, ◌-◌, ◌≤◌, ◌&&◌, ℕ, ap, cond, Bool, true, false, List, [], ◌∷◌, Option, Some, None, option_map, option_and_then, refl, sym, subst, codes, arith}
use Rattle.std.specs.Prelude.{◌↔◌, decimal, nat_le}
use Rattle.std.proofs.lemmas.Bool.Decides.{nat_tests}
use Rattle.std.proofs.lemmas.Fmt.{decimal_digit}
use Rattle.clap.specs.Words.{App, Text, first_of}
use Rattle.command_words.specs.Requests.{RequestText, heads_app, dump_app, directory_app, check_app, keygen_app, apply_app, export_app, query_app, merge_app, Asks, Takes, for_heads, for_check, for_dump, for_init, for_keygen, for_apply, for_join, for_export, for_query, for_merge, for_notes}
use Rattle.command_words.specs.NetRequests.{NetText, sync, serve, sync_app, serve_app, AsksNet, for_sync, for_serve}
use Rattle.command_words.specs.NetCommands.{net_request_named, net_request_of, serve_asked, serve_of, session_count, sync_asked, sync_of}
use Rattle.command_words.specs.Words.{rows_given}
use Rattle.command_words.proofs.Rules.{chained, either, mapped, named, rows_are, takes}

-- ---- numbers of sessions

-- a word of a number from 1 to 8 is read as it
counted : (n : ℕ) → 1 ≤ n → n ≤ 8 → session_count (decimal n) ≡ Some n
counted n least most =
    let spelled : decimal n ≡ (48 + n) ∷ [] = decimal_digit n (omega arith) in
    let from_one : nat_le 49 (48 + n) ≡ true = grind (arith, nat_tests, least) in
    let to_eight : nat_le (48 + n) 56 ≡ true = grind (arith, nat_tests, most) in
    let value : 48 + n - 48 ≡ n = omega arith in
    rw (spelled, from_one, to_eight, value) refl

-- a word that is read is that of a number from 1 to 8
spelled_by : (word : Text) (n : ℕ) → session_count word ≡ Some n → (word ≡ decimal n) × (1 ≤ n) × (n ≤ 8)
spelled_by [] n e = absurd (cc)
spelled_by (digit ∷ []) n e =
    let below : (b : Bool) → nat_le digit 56 ≡ b → nat_le 49 digit ≡ true → cond b (Some (digit - 48)) None ≡ Some n → (digit ∷ [] ≡ decimal n) × (1 ≤ n) × (n ≤ 8) = elim [
      | true ↦ λ high low e.
          let least : 49 ≤ digit = grind (arith, nat_tests, low) in
          let most : digit ≤ 56 = grind (arith, nat_tests, high) in
          let is : digit - 48 ≡ n = cc in
          let value : digit ≡ 48 + n = omega arith in
          (ap (λ (d : ℕ). d ∷ []) value ∙ sym (decimal_digit n (omega arith)), omega arith, omega arith)
      | false ↦ λ high low e. absurd (cc)
    ] in
    let above : (b : Bool) → nat_le 49 digit ≡ b → cond (b && nat_le digit 56) (Some (digit - 48)) None ≡ Some n → (digit ∷ [] ≡ decimal n) × (1 ≤ n) × (n ≤ 8) = elim [
      | true ↦ λ low e. below (nat_le digit 56) refl low e
      | false ↦ λ low e. absurd (cc)
    ] in
    above (nat_le 49 digit) refl e
spelled_by (digit ∷ other ∷ more) n e = absurd (cc)

-- ---- from the rules

-- by the first word
first_is : (name : Text) (app : App) (words : List Text) → Takes name app words → net_request_of words ≡ net_request_named name words
first_is name app words h = named net_request_named name app words h

pub by_rule : (words : List Text) (request : NetText) → AsksNet words request → net_request_of words ≡ Some request
by_rule words request (for_sync directory address h d a) =
    first_is (codes "sync") sync_app words h ∙ ap (option_and_then sync_asked) (rows_are (codes "sync") sync_app words h)
    ∙ (λ i. option_and_then (λ x. option_map (sync x) (a i)) (d i))
by_rule words request (for_serve directory address sessions h d a n least most) =
    first_is (codes "serve") serve_app words h ∙ ap (option_and_then serve_asked) (rows_are (codes "serve") serve_app words h)
    ∙ (λ i. option_and_then (λ x. option_and_then (λ y. option_map (serve x y) (option_and_then session_count (n i))) (a i)) (d i))
    ∙ ap (option_map (serve directory address)) (counted sessions least most)

-- ---- to the rules

from_sync : (words rest : List Text) (request : NetText) → words ≡ codes "sync" ∷ rest → sync_of words ≡ Some request → AsksNet words request
from_sync words rest request n e =
    let k = chained sync_asked (rows_given sync_app words) request e in
    let t = takes (codes "sync") sync_app words rest k.0 n k.1 in
    let of = sym t.1 in
    let d = chained (λ (directory : Text). option_map (sync directory) (first_of (codes "ADDR") k.0)) (first_of (codes "DIR") k.0) request k.2 in
    let a = mapped (sync d.0) (first_of (codes "ADDR") k.0) request d.2 in
    subst (λ (r : NetText). AsksNet words r) a.2
    (for_sync d.0 a.0 t.0 (ap (first_of (codes "DIR")) of ∙ d.1) (ap (first_of (codes "ADDR")) of ∙ a.1))

from_serve : (words rest : List Text) (request : NetText) → words ≡ codes "serve" ∷ rest → serve_of words ≡ Some request → AsksNet words request
from_serve words rest request n e =
    let k = chained serve_asked (rows_given serve_app words) request e in
    let t = takes (codes "serve") serve_app words rest k.0 n k.1 in
    let of = sym t.1 in
    let count : Option ℕ = option_and_then session_count (first_of (codes "sessions") k.0) in
    let d = chained (λ (directory : Text). option_and_then (λ address. option_map (serve directory address) count) (first_of (codes "ADDR") k.0)) (first_of (codes "DIR") k.0) request k.2 in
    let a = chained (λ (address : Text). option_map (serve d.0 address) count) (first_of (codes "ADDR") k.0) request d.2 in
    let m = mapped (serve d.0 a.0) count request a.2 in
    let w = chained session_count (first_of (codes "sessions") k.0) m.0 m.1 in
    let spelled = spelled_by w.0 m.0 w.2 in
    subst (λ (r : NetText). AsksNet words r) m.2
    (for_serve d.0 a.0 m.0 t.0 (ap (first_of (codes "DIR")) of ∙ d.1) (ap (first_of (codes "ADDR")) of ∙ a.1)
    (ap (first_of (codes "sessions")) of ∙ w.1 ∙ ap Some spelled.0) spelled.1 spelled.2)

pub to_rule : (words : List Text) (request : NetText) → net_request_of words ≡ Some request → AsksNet words request
to_rule [] request e = absurd (cc)
to_rule (first ∷ rest) request e =
    let words : List Text = first ∷ rest in
    either first (codes "sync") rest request _ _ (λ n. from_sync words rest request n)
    (either first (codes "serve") rest request _ _ (λ n. from_serve words rest request n) (λ e. absurd (cc))) e

pub are_by_rule : (words : List Text) (request : NetText) → AsksNet words request ↔ (net_request_of words ≡ Some request)
are_by_rule words request = (by_rule words request, to_rule words request)

pub one_only : (words : List Text) (request other : NetText) → AsksNet words request → AsksNet words other → request ≡ other
one_only words request other h k = let a = by_rule words request h in let b = by_rule words other k in cc

-- ---- beside the requests without a net

apart : (name : Text) (app : App) (words : List Text) (other : NetText) → Takes name app words → net_request_named name words ≡ None → AsksNet words other → ⊥
apart name app words other h none k = let read = first_is name app words h in let asked = by_rule words other k in absurd (cc)

pub not_both : (words : List Text) (request : RequestText) (other : NetText) → Asks words request → AsksNet words other → ⊥
not_both words request other (for_heads h) k = apart (codes "heads") heads_app words other h refl k
not_both words request other (for_check h) k = apart (codes "check") check_app words other h refl k
not_both words request other (for_dump h) k = apart (codes "dump") dump_app words other h refl k
not_both words request other (for_init directory h g) k = apart (codes "init") (directory_app (codes "init")) words other h refl k
not_both words request other (for_keygen directory height width h d e f) k = apart (codes "keygen") keygen_app words other h refl k
not_both words request other (for_apply directory text h d n) k = apart (codes "apply") apply_app words other h refl k
not_both words request other (for_join directory h g) k = apart (codes "join") (directory_app (codes "join")) words other h refl k
not_both words request other (for_export directory h g) k = apart (codes "export") export_app words other h refl k
not_both words request other (for_query directory text h f s) k = apart (codes "query") query_app words other h refl k
not_both words request other (for_merge first second h f s differ) k = apart (codes "merge") merge_app words other h refl k
not_both words request other (for_notes directory h g) k = apart (codes "notes") (directory_app (codes "notes")) words other h refl k
