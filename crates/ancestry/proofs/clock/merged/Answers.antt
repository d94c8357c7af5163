use Rattle.std.proofs.Common.{◌∙◌, refl, arith}
use Rattle.std.proofs.lemmas.List.{get_or-replicate}
use Rattle.ancestry.proofs.Merging.{counts_few, merged_none, merged_more, merged_all}
use Rattle.ancestry.proofs.clock.merged.Goals as goal

pub loop-position-init : goal.loop-position-init
loop-position-init c = (refl, λ k low. get_or-replicate 64 k 0 0 low ∙ merged_none c.args.members.now k c.args.preds.now)

pub raise-requires : goal.raise-requires
raise-requires c = λ k low. counts_few c.args.members.now c.args.clocks.now c.args.preds.now c.loop-position.position-index k _ c.requires.clocked c.requires.few c.requires.earlier (omega arith) low

pub loop-position-preserved : goal.loop-position-preserved
loop-position-preserved c = (
  c.raise.array_long,
  λ k low. merged_more c.args.members.now c.args.clocks.now c.args.preds.now c.loop-position.position-index k _ _ _ c.requires.clocked c.requires.earlier (omega arith) low
      (c.loop-position.invariant.1 k low) (c.raise.ensures k low),
)

pub returns : goal.returns
returns c = record {
  long = c.loop-position.invariant.0;
  are = λ k low. merged_all c.args.members.now c.args.preds.now c.loop-position.position-index k _ c.requires.lower c.requires.earlier (omega arith) low (c.loop-position.invariant.1 k low);
}
