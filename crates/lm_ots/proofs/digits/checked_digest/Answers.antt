use Rattle.std.proofs.Common.{◌≡◌, ◌++◌, List, ℕ, [], ◌∷◌, length, take, drop, ap, ◌∙◌, arith, length-append, length-take}
use Rattle.std.proofs.lemmas.List.{drop_all, take_at}
use Rattle.std.specs.Int.{w16, to_be_bytes}
use Rattle.lm_ots.specs.Digits.{checksum}
use Rattle.lm_ots.proofs.Blocks.{put_end}
use Rattle.lm_ots.proofs.digits.checked_digest.Goals as goal

pub returns : goal.returns
returns c =
    let before : List ℕ = c.copy_from_slice.new.self ++ 0 ∷ 0 ∷ [] in
    let len : length before ≡ 34 = omega (arith, length-append c.copy_from_slice.new.self (0 ∷ 0 ∷ [])) in
    let none : drop 2 (take 2 (drop 32 before)) ≡ [] = drop_all 2 (take 2 (drop 32 before)) (omega (arith, length-take 2 (drop 32 before))) in
    let sum : c.write_u16.new.buf ≡ to_be_bytes w16 c.checksum.result = c.write_u16.ensures ∙ ap (λ (xs : List ℕ). to_be_bytes w16 c.checksum.result ++ xs) none in
    put_end 32 2 before c.write_u16.new.buf len
    ∙ rw (sum, c.checksum.ensures) (ap (λ (xs : List ℕ). xs ++ to_be_bytes w16 (checksum c.args.kind c.args.digest.now)) (take_at c.copy_from_slice.new.self _ 32 c.copy_from_slice.ensures.len ∙ c.copy_from_slice.ensures.after))
