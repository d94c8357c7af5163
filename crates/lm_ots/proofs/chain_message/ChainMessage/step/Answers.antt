use Rattle.std.proofs.Common.{◌≡◌, length, set, ◌∙◌, ap, arith}
use Rattle.std.proofs.lemmas.List.{length-set, set_split}
use Rattle.sha2.specs.Sha256.{sha256}
use Rattle.lm_ots.proofs.Blocks.{drop_put}
use Rattle.lm_ots.proofs.chain_message.ChainMessage.step.Goals as goal

pub returns-clause-value : goal.returns-clause-value
returns-clause-value c =
    let len : length (set c.args.self.now.bytes 22 c.args.j) ≡ 55 = omega (arith, length-set c.args.self.now.bytes 22 c.args.j) in
    drop_put 23 32 _ c.copy_from_slice.new.self len ∙ c.copy_from_slice.ensures.after ∙ c.digest-digest.ensures
    ∙ ap sha256 (set_split c.args.self.now.bytes 22 c.args.j (omega arith))
