-- The request to watch a query that is read from words is the one that the rules tell.
use Rattle.std.proofs.Common.{◌≡◌, ◌∙◌, ◌≤◌, ◌&&◌, ℕ, ℤ, pos, negsuc, ap, cond, Bool, true, false, List, [], ◌∷◌, Option, Some, None, option_map, option_and_then, refl, sym, subst, codes, arith}
use Rattle.std.specs.Prelude.{◌↔◌, nat_le}
use Rattle.std.proofs.lemmas.Bool.Decides.{nat_tests}
use Rattle.clap.specs.Words.{Row, Text, first_of}
use Rattle.text_words.specs.Integers.{int_of}
use Rattle.text_words.proofs.Printed.{printed_is_read, read_is_printed}
use Rattle.command_words.specs.WatchRequests.{AsksWatch, IsEvery, WatchText, for_watch, watch, watch_app}
use Rattle.command_words.specs.WatchCommands.{count_of, every_of, watch_asked, watch_of, watch_request_named, watch_request_of}
use Rattle.command_words.specs.Words.{rows_given}
use Rattle.command_words.proofs.Rules.{chained, either, mapped, named, rows_are, takes}

-- ---- numbers of lines

-- a word of a number from 1 to 4,096 is read as it
every_read : (word : Option Text) (every : ℕ) → IsEvery word every → every_of word ≡ Some every
every_read None every is = ap Some (sym is)
every_read (Some word) every is =
    let least : nat_le 1 every ≡ true = (let few = is.1 in grind (arith, nat_tests, few)) in
    let most : nat_le every 4096 ≡ true = (let many = is.2 in grind (arith, nat_tests, many)) in
    let small : every ≤ 4096 = is.2 in
    let read : int_of word ≡ Some (pos every) = ap int_of is.0 ∙ printed_is_read (pos every) (omega (arith, small)) in
    rw (read, least, most) refl

-- what is counted is a number from 1 to 4,096
counted : (found : Option ℤ) (every : ℕ) → count_of found ≡ Some every → (found ≡ Some (pos every)) × (1 ≤ every) × (every ≤ 4096)
counted None every e = absurd (cc)
counted (Some (negsuc n)) every e = absurd (cc)
counted (Some (pos n)) every e =
    let below : (b : Bool) → nat_le n 4096 ≡ b → nat_le 1 n ≡ true → cond b (Some n) None ≡ Some every → (Some (pos n) ≡ Some (pos every)) × (1 ≤ every) × (every ≤ 4096) = elim [
      | true ↦ λ high low e.
          let least : 1 ≤ n = grind (arith, nat_tests, low) in
          let most : n ≤ 4096 = grind (arith, nat_tests, high) in
          let is : n ≡ every = cc in
          (ap (λ (m : ℕ). Some (pos m)) is, subst (λ (m : ℕ). 1 ≤ m) is least, subst (λ (m : ℕ). m ≤ 4096) is most)
      | false ↦ λ high low e. absurd (cc)
    ] in
    let above : (b : Bool) → nat_le 1 n ≡ b → cond (b && nat_le n 4096) (Some n) None ≡ Some every → (Some (pos n) ≡ Some (pos every)) × (1 ≤ every) × (every ≤ 4096) = elim [
      | true ↦ λ low e. below (nat_le n 4096) refl low e
      | false ↦ λ low e. absurd (cc)
    ] in
    above (nat_le 1 n) refl e

-- a word that is read is that of a number from 1 to 4,096
every_told : (word : Option Text) (every : ℕ) → every_of word ≡ Some every → IsEvery word every
every_told None every e = cc
every_told (Some word) every e =
    let found = counted (int_of word) every e in
    ((read_is_printed word (pos every) found.0).0, found.1, found.2)

-- ---- the rule

pub by_rule : (words : List Text) (request : WatchText) → AsksWatch words request → watch_request_of words ≡ Some request
by_rule words request (for_watch directory text every h d t is) =
    named watch_request_named (codes "watch") watch_app words h ∙ ap (option_and_then watch_asked) (rows_are (codes "watch") watch_app words h)
    ∙ (λ i. option_and_then (λ x. option_and_then (λ y. option_map (watch x y) (every_read _ every is i)) (t i)) (d i))

from_watch : (words rest : List Text) (request : WatchText) → words ≡ codes "watch" ∷ rest → watch_of words ≡ Some request → AsksWatch words request
from_watch words rest request n e =
    let k = chained watch_asked (rows_given watch_app words) request e in
    let t = takes (codes "watch") watch_app words rest k.0 n k.1 in
    let of = sym t.1 in
    let count : Option ℕ = every_of (first_of (codes "every") k.0) in
    let d = chained (λ (directory : Text). option_and_then (λ text. option_map (watch directory text) count) (first_of (codes "TEXT") k.0)) (first_of (codes "DIR") k.0) request k.2 in
    let x = chained (λ (text : Text). option_map (watch d.0 text) count) (first_of (codes "TEXT") k.0) request d.2 in
    let m = mapped (watch d.0 x.0) count request x.2 in
    let is = every_told (first_of (codes "every") k.0) m.0 m.1 in
    subst (λ (r : WatchText). AsksWatch words r) m.2
    (for_watch d.0 x.0 m.0 t.0 (ap (first_of (codes "DIR")) of ∙ d.1) (ap (first_of (codes "TEXT")) of ∙ x.1) (subst (λ (rows : List Row). IsEvery (first_of (codes "every") rows) m.0) t.1 is))

pub to_rule : (words : List Text) (request : WatchText) → watch_request_of words ≡ Some request → AsksWatch words request
to_rule [] request e = absurd (cc)
to_rule (first ∷ rest) request e =
    let words : List Text = first ∷ rest in
    either first (codes "watch") rest request _ _ (λ n. from_watch words rest request n) (λ e. absurd (cc)) e

pub are_by_rule : (words : List Text) (request : WatchText) → AsksWatch words request ↔ (watch_request_of words ≡ Some request)
are_by_rule words request = (by_rule words request, to_rule words request)

pub one_only : (words : List Text) (request other : WatchText) → AsksWatch words request → AsksWatch words other → request ≡ other
one_only words request other h k = let a = by_rule words request h in let b = by_rule words other k in cc
