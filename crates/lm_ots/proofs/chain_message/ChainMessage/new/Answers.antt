use Rattle.std.proofs.Common.{◌++◌, List, ℕ, refl, ap, ◌∙◌, arith, length-append}
use Rattle.std.proofs.lemmas.List.{take_at}
use Rattle.std.specs.Int.{w32, to_be_bytes}
use Rattle.lm_ots.proofs.Blocks.{take_put}
use Rattle.lm_ots.proofs.chain_message.ChainMessage.new.Goals as goal

pub returns : goal.returns
returns c =
    rw c.write_u32.ensures
    (take_put 16 4 20 39 _ (to_be_bytes w32 c.args.q) _ (omega arith) refl (omega (arith, c.copy_from_slice.ensures.len, length-append {A = ℕ}))
    ∙ ap (λ (xs : List ℕ). xs ++ to_be_bytes w32 c.args.q) (take_at c.copy_from_slice.new.self _ 16 c.copy_from_slice.ensures.len ∙ c.copy_from_slice.ensures.after))
