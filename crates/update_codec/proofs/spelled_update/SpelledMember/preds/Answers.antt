use Rattle.std.proofs.Common.{ap}
use Rattle.update_codec.specs.declared.header.Header.{Header}
use Rattle.update_codec.proofs.Rising.{sorted_from_rising}
use Rattle.update_codec.proofs.spelled_update.SpelledMember.preds.Goals as goal

pub returns-clause-rising : goal.returns-clause-rising
returns-clause-rising c =
    rw (c.as_slice.ensures, ap (λ (h : Header). h.preds) c.self.invariant.same_header) (sorted_from_rising _ c.self.invariant.spells.form.body.rising)
