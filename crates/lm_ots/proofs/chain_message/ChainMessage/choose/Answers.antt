use Rattle.std.proofs.Common.{◌≡◌, length, ◌∙◌, rules}
use Rattle.lm_ots.proofs.Blocks.{drop_put}
use borrow.Rule.Slice.PartMut.{put_mid}
use Rattle.lm_ots.proofs.chain_message.ChainMessage.choose.Goals as goal

pub returns-clause-value : goal.returns-clause-value
returns-clause-value c =
    let len : length (put_mid 20 35 c.args.self.now.bytes c.write_u16.new.buf) ≡ 55 = search rules in
    drop_put 23 32 _ c.copy_from_slice.new.self len ∙ c.copy_from_slice.ensures.after
