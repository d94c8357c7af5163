use Rattle.std.proofs.Common.{◌≡◌, ℕ, List, Option, Result, Ok, Err, Some, sym, subst}
use Rattle.std.specs.Prelude.{IfErr}
use Rattle.std.proofs.lemmas.Result.{IfOk-weaker}
use Rattle.look_commands.specs.Bundles.{HoldsFirst}
use Rattle.look_commands.proofs.Answering.{first_refused}
use Rattle.look_commands.proofs.differing.read_first.Goals as goal

-- the first bundle, behind its length
holds : (before after : Option (List ℕ)) {bytes bundle : List ℕ} → bundle ≡ bytes → HoldsFirst before after bytes → HoldsFirst before after bundle
holds before after is = subst (λ (w : List ℕ). HoldsFirst before after w) (sym is)

err_weaker : {T E : Type 0} (r : Result T E) (P Q : E → Type 0) → ((e : E) → P e → Q e) → IfErr r P → IfErr r Q
err_weaker (Ok x) P Q f h = tt
err_weaker (Err e) P Q f h = f e h

pub returns-clause-held : goal.returns-clause-held
returns-clause-held g c =
    let first = holds (g.S.Source.left c.args.input.now) (g.S.Source.left c.first_bundle.new.input) c.new-source.ensures c.in_ok-bytes.ensures.first in
    IfOk-weaker c.read_bundle.result _ _ (λ bundle held. (c.new-source.result, Some c.read_bundle.new.input, first, held)) c.read_bundle.ensures.held

pub returns-clause-refused : goal.returns-clause-refused
returns-clause-refused g c =
    let before = g.S.Source.left c.args.input.now in
    let after = g.S.Source.left c.first_bundle.new.input in
    let first = holds before after c.new-source.ensures c.in_ok-bytes.ensures.first in
    err_weaker c.read_bundle.result _ _ (λ refusal why. first_refused before after (Some c.read_bundle.new.input) (g.S.Counted.faults c.args.input.now) (g.S.Counted.faults c.first_bundle.new.input) c.new-source.result refusal first why)
    c.read_bundle.ensures.refused
