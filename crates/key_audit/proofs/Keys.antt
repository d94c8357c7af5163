-- One-time keys order as their bytes do.
use Rattle.std.proofs.Common.{◌≡◌, ◌∙◌, ℕ, zero, suc, ◌≤◌, List, [], ◌∷◌, ◌++◌, length, refl, sym, ap, arith}
use Rattle.std.specs.Cmp.{IsTotalOrder}
use Rattle.std.specs.Cmp.Lexicographic.{slice_cmp}
use Rattle.std.specs.Int.{w32, to_be_bytes}
use Rattle.std.specs.Ordering.{nat_cmp, ordering_then}
use Rattle.std.specs.declared.cmp.Ordering.{Ordering}
use Rattle.std.specs.declared.cmp.Ordering.TheVariants.{Less, Equal, Greater}
use Rattle.std.proofs.lemmas.Cmp.{nat_cmp_total, nat_list_cmp_total, on_total, then_total}
use Rattle.update_model.specs.declared.author_key.AuthorKey.{AuthorKey}
use Rattle.update_model.specs.Form.{IsKey}
use Rattle.update_codec.specs.Spelling.{author}
use Rattle.key_audit.specs.Walk.{key_cmp, one_time_cmp}
use Rattle.key_audit.specs.declared.one_time.OneTime.{OneTime}

key_total : IsTotalOrder key_cmp
key_total =
    then_total (on_total (λ (k : AuthorKey). k.lms) nat_cmp_total) (then_total (on_total (λ (k : AuthorKey). k.ots) nat_cmp_total)
    (then_total (on_total (λ (k : AuthorKey). k.ident) nat_list_cmp_total) (on_total (λ (k : AuthorKey). k.root) nat_list_cmp_total)))

pub one_time_total : IsTotalOrder one_time_cmp
one_time_total = then_total (on_total (λ (k : OneTime). k.key) key_total) (on_total (λ (k : OneTime). k.index) nat_cmp_total)

then_assoc : (a b c : Ordering) → ordering_then (ordering_then a b) c ≡ ordering_then a (ordering_then b c)
then_assoc Less b c = refl
then_assoc Equal b c = refl
then_assoc Greater b c = refl

-- lists that begin with as many elements compare by these first
by_parts : (a b c d : List ℕ) → length a ≡ length b → slice_cmp nat_cmp (a ++ c) (b ++ d) ≡ ordering_then (slice_cmp nat_cmp a b) (slice_cmp nat_cmp c d)
by_parts [] [] c d long = refl
by_parts [] (y ∷ b) c d long = absurd (omega (arith, long))
by_parts (x ∷ a) [] c d long = absurd (omega (arith, long))
by_parts (x ∷ a) (y ∷ b) c d long =
    ap (λ (o : Ordering). ordering_then (nat_cmp x y) o) (by_parts a b c d (omega (arith, long))) ∙ sym (then_assoc (nat_cmp x y) (slice_cmp nat_cmp a b) (slice_cmp nat_cmp c d))

-- a small number ends its four bytes
small_word : (n : ℕ) → n ≤ 7 → to_be_bytes w32 n ≡ 0 ∷ 0 ∷ 0 ∷ n ∷ []
small_word zero low = refl
small_word (suc zero) low = refl
small_word (suc (suc zero)) low = refl
small_word (suc (suc (suc zero))) low = refl
small_word (suc (suc (suc (suc zero)))) low = refl
small_word (suc (suc (suc (suc (suc zero))))) low = refl
small_word (suc (suc (suc (suc (suc (suc zero)))))) low = refl
small_word (suc (suc (suc (suc (suc (suc (suc zero))))))) low = refl
small_word (suc (suc (suc (suc (suc (suc (suc (suc n)))))))) low = absurd (omega (arith, low))

then_Equal : (o : Ordering) → ordering_then o Equal ≡ o
then_Equal Less = refl
then_Equal Equal = refl
then_Equal Greater = refl

by_words : (m n : ℕ) → m ≤ 7 → n ≤ 7 → slice_cmp nat_cmp (to_be_bytes w32 m) (to_be_bytes w32 n) ≡ nat_cmp m n
by_words m n low few = (λ i. slice_cmp nat_cmp (small_word m low i) (small_word n few i)) ∙ then_Equal (nat_cmp m n)

-- keys order by their bytes
pub by_bytes : (a b : AuthorKey) → IsKey a → IsKey b → slice_cmp nat_cmp (author a) (author b) ≡ key_cmp a b
by_bytes a b one two =
    let la : List ℕ = to_be_bytes w32 a.lms in
    let lb : List ℕ = to_be_bytes w32 b.lms in
    let oa : List ℕ = to_be_bytes w32 a.ots in
    let ob : List ℕ = to_be_bytes w32 b.ots in
    let idents : length a.ident ≡ length b.ident = one.ident.len ∙ sym two.ident.len in
    let ots_a : a.ots ≤ 7 = (let h = one.known.ots.1 in omega (arith, h)) in
    let ots_b : b.ots ≤ 7 = (let h = two.known.ots.1 in omega (arith, h)) in
    by_parts la lb (oa ++ (a.ident ++ a.root)) (ob ++ (b.ident ++ b.root)) refl
    ∙ (λ i. ordering_then (by_words a.lms b.lms one.known.lms.1 two.known.lms.1 i) (by_parts oa ob (a.ident ++ a.root) (b.ident ++ b.root) refl i))
    ∙ (λ i. ordering_then (nat_cmp a.lms b.lms) (ordering_then (by_words a.ots b.ots ots_a ots_b i) (by_parts a.ident b.ident a.root b.root idents i)))
