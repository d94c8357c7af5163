use Rattle.std.proofs.Common.{All, List, refl, subst, ℕ}
use Rattle.std.proofs.lemmas.List.{take_all}
use Rattle.std.proofs.lemmas.List.Elements.{All-more}
use Rattle.update_check.specs.Signed.{IsChecked, IsUnder}
use Rattle.update_codec.specs.Parts.{body_of}
use Rattle.import_commands.proofs.Opened.{checked_as}
use Rattle.import_commands.proofs.taking.are_under.Goals as goal

pub loop-update-preserved : goal.loop-update-preserved
loop-update-preserved c =
    let rule = c.args.rule.now in
    let bytes = c.update-item.result in
    let under : IsUnder rule (body_of bytes) = c.is_under.ensures.0 c.if-not-is_under.false in
    record {
      is = All-more (λ b. IsUnder rule (body_of b)) c.args.updates.now c.loop-update.update-index bytes c.loop-update-test.true c.loop-update.invariant.is
          (subst (λ (b : List ℕ). IsUnder rule (body_of b)) c.update-item.is under);
      checked = All-more (IsChecked rule) c.args.updates.now c.loop-update.update-index bytes c.loop-update-test.true c.loop-update.invariant.checked
          (subst (IsChecked rule) c.update-item.is (checked_as rule bytes c.author.ensures.signed under));
    }

pub returns-clause-is : goal.returns-clause-is
returns-clause-is c = (
  λ done. subst (All (λ bytes. IsUnder c.args.rule.now (body_of bytes))) (take_all c.loop-update.update-index c.args.updates.now c.loop-update-test.false) c.loop-update.invariant.is,
  λ all. refl,
)

pub returns-clause-checked : goal.returns-clause-checked
returns-clause-checked c done = subst (All (IsChecked c.args.rule.now)) (take_all c.loop-update.update-index c.args.updates.now c.loop-update-test.false) c.loop-update.invariant.checked
