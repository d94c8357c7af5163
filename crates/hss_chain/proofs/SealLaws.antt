-- A key and a seal have their parts in one way.
use Rattle.std.proofs.Common.{◌≡◌, ℕ, ◌+◌, ◌<◌, List, ◌++◌, length, take, drop, refl, sym, ap, ◌∙◌, arith, length-append}
use Rattle.std.specs.Int.{w32, to_be_bytes}
use Rattle.std.proofs.lemmas.List.{take_at, append_cancel_left, take-append-drop}
use Rattle.update_model.specs.Form.{IsKey, signature_length}
use Rattle.update_model.specs.declared.author_key.AuthorKey.{AuthorKey}
use Rattle.hss_chain.specs.Keys.{key_bytes}
use Rattle.hss_chain.specs.Sealing.{HaveParts, SealParts, public_bytes}
use Rattle.hss_chain.proofs.KeyLaws.{length-key_bytes, one_key}

-- A key and a seal were taken apart.
pub record AreFound (key sig : List ℕ) (top : AuthorKey) (top_sig low_bytes low_sig : List ℕ) : Type 0 where
  pub key_is : key ≡ public_bytes top
  pub top_key : IsKey top
  pub sig_is : sig ≡ to_be_bytes w32 1 ++ (top_sig ++ (low_bytes ++ low_sig))
  pub size : length top_sig ≡ signature_length top
  pub low_size : length low_bytes ≡ 56

-- fronts of one length
same_front : (xs ys p q : List ℕ) → length xs ≡ length ys → xs ++ p ≡ ys ++ q → xs ≡ ys
same_front xs ys p q long same = sym (take_at xs p (length ys) long) ∙ ap (take (length ys)) same ∙ take_at ys q (length ys) refl

same_rest : (xs ys p q : List ℕ) → length xs ≡ length ys → xs ++ p ≡ ys ++ q → p ≡ q
same_rest xs ys p q long same = append_cancel_left ys p q (ap (λ (zs : List ℕ). zs ++ p) (sym (same_front xs ys p q long same)) ∙ same)

-- The parts are those that were found.
pub record AreSame (parts : SealParts) (top : AuthorKey) (top_sig low_bytes low_sig : List ℕ) : Type 0 where
  pub same_top : parts.top ≡ top
  pub same_top_sig : parts.top_sig ≡ top_sig
  pub same_low : key_bytes parts.low ≡ low_bytes
  pub same_low_sig : parts.low_sig ≡ low_sig

pub found_parts : (key sig : List ℕ) (top : AuthorKey) (top_sig low_bytes low_sig : List ℕ) (parts : SealParts)
    → AreFound key sig top top_sig low_bytes low_sig → HaveParts key sig parts → AreSame parts top top_sig low_bytes low_sig
found_parts key sig top top_sig low_bytes low_sig parts found have =
    let same_top : parts.top ≡ top =
    one_key parts.top top have.top_key found.top_key (append_cancel_left (to_be_bytes w32 2) (key_bytes parts.top) (key_bytes top) (sym have.key_is ∙ found.key_is)) in
    let size : length parts.top_sig ≡ length top_sig = have.top_size ∙ ap signature_length same_top ∙ sym found.size in
    let all : parts.top_sig ++ (key_bytes parts.low ++ parts.low_sig) ≡ top_sig ++ (low_bytes ++ low_sig) =
    append_cancel_left (to_be_bytes w32 1) _ _ (sym have.sig_is ∙ found.sig_is) in
    let behind : key_bytes parts.low ++ parts.low_sig ≡ low_bytes ++ low_sig = same_rest parts.top_sig top_sig _ _ size all in
    let low_size : length (key_bytes parts.low) ≡ length low_bytes = length-key_bytes parts.low have.low_key ∙ sym found.low_size in
    record {
      same_top = same_top;
      same_top_sig = same_front parts.top_sig top_sig _ _ size all;
      same_low = same_front (key_bytes parts.low) low_bytes parts.low_sig low_sig low_size behind;
      same_low_sig = same_rest (key_bytes parts.low) low_bytes parts.low_sig low_sig low_size behind;
    }

pub in_three : (signed top_sig rest low low_sig : List ℕ) (n : ℕ) → top_sig ≡ take n signed → rest ≡ drop n signed → low ≡ take 56 rest → low_sig ≡ drop 56 rest
    → signed ≡ top_sig ++ (low ++ low_sig)
in_three signed top_sig rest low low_sig n a b c d =
    sym (take-append-drop n signed) ∙ ap (λ (xs : List ℕ). xs ++ drop n signed) (sym a) ∙ ap (λ (xs : List ℕ). top_sig ++ xs) (sym b)
    ∙ ap (λ (xs : List ℕ). top_sig ++ xs) (sym (take-append-drop 56 rest) ∙ ap (λ (xs : List ℕ). xs ++ drop 56 rest) (sym c) ∙ ap (λ (xs : List ℕ). low ++ xs) (sym d))

-- A seal that is shorter has no parts.
pub too_short : (key sig signed : List ℕ) (top : AuthorKey) (parts : SealParts) → key ≡ public_bytes top → IsKey top → sig ≡ to_be_bytes w32 1 ++ signed
    → length signed < signature_length top + 56 → HaveParts key sig parts → ⊥
too_short key sig signed top parts key_is top_key sig_is short have =
    let same_top : parts.top ≡ top =
    one_key parts.top top have.top_key top_key (append_cancel_left (to_be_bytes w32 2) (key_bytes parts.top) (key_bytes top) (sym have.key_is ∙ key_is)) in
    let size : length parts.top_sig ≡ signature_length top = have.top_size ∙ ap signature_length same_top in
    let all : parts.top_sig ++ (key_bytes parts.low ++ parts.low_sig) ≡ signed = append_cancel_left (to_be_bytes w32 1) _ _ (sym have.sig_is ∙ sig_is) in
    let long = ap length all in
    omega (arith, short, size, long, length-append parts.top_sig (key_bytes parts.low ++ parts.low_sig), length-append (key_bytes parts.low) parts.low_sig, length-key_bytes parts.low have.low_key)

-- A key and a seal have one set of parts.
pub one_parts : (key sig : List ℕ) (a b : SealParts) → HaveParts key sig a → HaveParts key sig b → a ≡ b
one_parts key sig a b first second =
    let found : AreFound key sig b.top b.top_sig (key_bytes b.low) b.low_sig = record {
      key_is = second.key_is;
      top_key = second.top_key;
      sig_is = second.sig_is;
      size = second.top_size;
      low_size = length-key_bytes b.low second.low_key;
    } in
    let same = found_parts key sig b.top b.top_sig (key_bytes b.low) b.low_sig a found first in
    of_parts a b same.same_top same.same_top_sig (one_key a.low b.low first.low_key second.low_key same.same_low) same.same_low_sig
  where
    of_parts : (a b : SealParts) → a.top ≡ b.top → a.top_sig ≡ b.top_sig → a.low ≡ b.low → a.low_sig ≡ b.low_sig → a ≡ b
    of_parts a b e1 e2 e3 e4 = λ i. record { top = e1 i; top_sig = e2 i; low = e3 i; low_sig = e4 i }
