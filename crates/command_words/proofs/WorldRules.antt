-- The request about worlds that is read from words is the one that the rules tell.
use Rattle.std.proofs.Common.{◌≡◌, ◌∙◌, ◌≤◌, ◌<◌, ◌^◌, ◌&&◌, ℕ, ap, cond, Bool, true, false, List, [], ◌∷◌, ◌==◌, Option, Some, None, Result, Ok, Err, option_map, option_and_then, refl, sym, subst, codes, arith}
use Rattle.std.specs.Prelude.{◌↔◌, bytes_eq, decimal, nat_le, nat_lt}
use Rattle.std.specs.Str.Parse.{IsNumeral, ParsesUnsigned, digits_value, without_leading_plus}
use Rattle.std.proofs.lemmas.Bool.Decides.{nat_tests}
use Rattle.std.proofs.lemmas.Fmt.{decimal_is_IsNumeral}
use Rattle.std.proofs.lemmas.Slice.Eq.{bytes_eq-Decides}
use Rattle.clap.specs.Words.{Row, Text, first_of}
use Rattle.text_words.proofs.IntegersLemmas.{and_true}
use Rattle.command_words.specs.Words.{rows_given}
use Rattle.command_words.specs.WorldRequests.{AsksWorld, WorldText, demo, demo_app, for_demo, for_world, world, world_app}
use Rattle.command_words.specs.WorldCommands.{count_of, demo_asked, demo_of, demo_with, number_of, world_asked, world_of, world_request_named, world_request_of}
use Rattle.command_words.proofs.Rules.{chained, either, mapped, named, rows_are, takes}

-- ---- numbers

-- no plus stands before a number in decimal
no_plus : (ds : List ℕ) → IsNumeral 10 ds → without_leading_plus ds ≡ ds
no_plus [] is = refl
no_plus (c ∷ cs) is =
    let low = is.1.0 in
    let other : (c == 43) ≡ false = grind (arith, nat_tests, low) in
    rw other refl

-- a number in decimal is read as it
pub number_read : (number : ℕ) → number < 2 ^ 64 → number_of (decimal number) ≡ Some number
number_read number small =
    let is = decimal_is_IsNumeral number small in
    let value : digits_value 10 (without_leading_plus (decimal number)) ≡ number = ap (digits_value 10) (no_plus (decimal number) is.0) ∙ is.1 in
    let same : bytes_eq (decimal number) (decimal number) ≡ true = (bytes_eq-Decides (decimal number) (decimal number)).1 refl in
    let low : nat_lt number (2 ^ 64) ≡ true = grind (arith, nat_tests, small) in
    rw (value, same, low) refl

chosen : {A : Type 0} (b : Bool) (a x : A) → cond b (Some a) None ≡ Some x → (b ≡ true) × (a ≡ x)
chosen true a x e = (refl, cc)
chosen false a x e = absurd cc

-- what is read is a number in decimal
number_told : (word : Text) (number : ℕ) → number_of word ≡ Some number → (word ≡ decimal number) × (number < 2 ^ 64)
number_told word number e =
    let n = digits_value 10 (without_leading_plus word) in
    let c = chosen (bytes_eq word (decimal n) && nat_lt n (2 ^ 64)) n number e in
    let b = and_true (bytes_eq word (decimal n)) (nat_lt n (2 ^ 64)) c.0 in
    let small : n < 2 ^ 64 = (let low = b.1 in grind (arith, nat_tests, low)) in
    ((bytes_eq-Decides word (decimal n)).0 b.0 ∙ ap decimal c.1, subst (λ (m : ℕ). m < 2 ^ 64) c.1 small)

-- where `parse` reads no number, the word is none in decimal
unread : (word : Text) (n : ℕ) (same : Bool) → bytes_eq word (decimal n) ≡ same → n < 2 ^ 64 → ¬ (IsNumeral 10 (without_leading_plus word)) → same ≡ false
unread word n true is small none =
    let as_it_is : word ≡ decimal n = (bytes_eq-Decides word (decimal n)).0 is in
    let numeral = (decimal_is_IsNumeral n small).0 in
    absurd (none (subst (λ (w : Text). IsNumeral 10 (without_leading_plus w)) (sym as_it_is) (subst (IsNumeral 10) (sym (no_plus (decimal n) numeral)) numeral)))
unread word n false is small none = refl

nothing : (word : Text) (small : Bool) → nat_lt (digits_value 10 (without_leading_plus word)) (2 ^ 64) ≡ small
    → ¬ (IsNumeral 10 (without_leading_plus word) × (digits_value 10 (without_leading_plus word) < 2 ^ 64)) → number_of word ≡ None
nothing word true is none =
    let low : digits_value 10 (without_leading_plus word) < 2 ^ 64 = grind (arith, nat_tests, is) in
    rw (unread word (digits_value 10 (without_leading_plus word)) _ refl low (λ numeral. none (numeral, low))) refl
nothing word false is none = by (bytes_eq word (decimal (digits_value 10 (without_leading_plus word))))
  where
    by : (b : Bool) → cond (b && nat_lt (digits_value 10 (without_leading_plus word)) (2 ^ 64)) (Some (digits_value 10 (without_leading_plus word))) None ≡ None
    by true = rw is refl
    by false = refl

pub unparsed : {E : Type 0} (word : Text) (read : Result ℕ E) (e : E) → read ≡ Err e → ParsesUnsigned 64 10 word read → None ≡ number_of word
unparsed word (Ok n) e is h = absurd cc
unparsed word (Err other) e is h = sym (nothing word _ refl h)

-- a count that is read
count_read : (count : ℕ) → 4 ≤ count → count ≤ 4000 → count_of count ≡ Some count
count_read count low high =
    let least : nat_le 4 count ≡ true = grind (arith, nat_tests, low) in
    let most : nat_le count 4000 ≡ true = grind (arith, nat_tests, high) in
    rw (least, most) refl

count_told : (number count : ℕ) → count_of number ≡ Some count → (number ≡ count) × (4 ≤ count) × (count ≤ 4000)
count_told number count e =
    let c = chosen (nat_le 4 number && nat_le number 4000) number count e in
    let b = and_true (nat_le 4 number) (nat_le number 4000) c.0 in
    let least : 4 ≤ number = (let low = b.0 in grind (arith, nat_tests, low)) in
    let most : number ≤ 4000 = (let high = b.1 in grind (arith, nat_tests, high)) in
    (c.1, subst (λ (m : ℕ). 4 ≤ m) c.1 least, subst (λ (m : ℕ). m ≤ 4000) c.1 most)

-- ---- the rule

pub by_rule : (words : List Text) (request : WorldText) → AsksWorld words request → world_request_of words ≡ Some request
by_rule words request (for_world h) = named world_request_named (codes "world") world_app words h ∙ ap (option_map world_asked) (rows_are (codes "world") world_app words h)
by_rule words request (for_demo number count h n small c least most) =
    named world_request_named (codes "demo") demo_app words h ∙ ap (option_and_then demo_asked) (rows_are (codes "demo") demo_app words h)
    ∙ (λ i. demo_with (option_and_then number_of (n i)) (option_and_then number_of (c i)))
    ∙ (λ i. demo_with (number_read number small i) (number_read count (omega (arith, most)) i))
    ∙ ap (option_map (demo number)) (count_read count least most)

from_world : (words rest : List Text) (request : WorldText) → words ≡ codes "world" ∷ rest → world_of words ≡ Some request → AsksWorld words request
from_world words rest request n e =
    let m = mapped world_asked (rows_given world_app words) request e in
    let t = takes (codes "world") world_app words rest m.0 n m.1 in
    subst (λ (r : WorldText). AsksWorld words r) (ap world_asked (sym t.1) ∙ m.2) (for_world t.0)

-- the number that the word of an argument is
number_in : (rows : List Row) (name : Text) (number : ℕ) → option_and_then number_of (first_of name rows) ≡ Some number
    → (first_of name rows ≡ Some (decimal number)) × (number < 2 ^ 64)
number_in rows name number e =
    let w = chained number_of (first_of name rows) number e in
    let told = number_told w.0 number w.2 in
    (w.1 ∙ ap (λ (t : Text). Some t) told.0, told.1)

from_demo : (words rest : List Text) (request : WorldText) → words ≡ codes "demo" ∷ rest → demo_of words ≡ Some request → AsksWorld words request
from_demo words rest request n e =
    let k = chained demo_asked (rows_given demo_app words) request e in
    let t = takes (codes "demo") demo_app words rest k.0 n k.1 in
    let of = sym t.1 in
    let counted : Option ℕ = option_and_then count_of (option_and_then number_of (first_of (codes "COUNT") k.0)) in
    let a = chained (λ (number : ℕ). option_map (demo number) counted) (option_and_then number_of (first_of (codes "NUMBER") k.0)) request k.2 in
    let b = mapped (demo a.0) counted request a.2 in
    let c = chained count_of (option_and_then number_of (first_of (codes "COUNT") k.0)) b.0 b.1 in
    let number = number_in k.0 (codes "NUMBER") a.0 a.1 in
    let count = number_in k.0 (codes "COUNT") c.0 c.1 in
    let told = count_told c.0 b.0 c.2 in
    subst (λ (r : WorldText). AsksWorld words r) b.2
    (for_demo a.0 b.0 t.0 (ap (first_of (codes "NUMBER")) of ∙ number.0) number.1 (ap (first_of (codes "COUNT")) of ∙ count.0 ∙ ap (λ (m : ℕ). Some (decimal m)) told.0) told.1 told.2)

pub to_rule : (words : List Text) (request : WorldText) → world_request_of words ≡ Some request → AsksWorld words request
to_rule [] request e = absurd (cc)
to_rule (first ∷ rest) request e =
    let words : List Text = first ∷ rest in
    either first (codes "world") rest request _ _ (λ n. from_world words rest request n)
    (either first (codes "demo") rest request _ _ (λ n. from_demo words rest request n) (λ e. absurd (cc))) e

pub are_by_rule : (words : List Text) (request : WorldText) → AsksWorld words request ↔ (world_request_of words ≡ Some request)
are_by_rule words request = (by_rule words request, to_rule words request)

pub one_only : (words : List Text) (request other : WorldText) → AsksWorld words request → AsksWorld words other → request ≡ other
one_only words request other h k = let a = by_rule words request h in let b = by_rule words other k in cc
