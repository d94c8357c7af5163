use Rattle.std.proofs.Common.{◌≤◌, ◌<◌, ◌∙◌, ◌||◌, Bool, true, false, cond, List, ap, subst, sym, arith}
use Rattle.std.specs.BTreeMap.{keys as keys_in}
use Rattle.session_rules.specs.declared.limits.TheConstants.{MAX_TURNS}
use Rattle.update_codec.specs.Parts.{preds_of}
use Rattle.update_model.specs.declared.update_id.UpdateId.{UpdateId as Id}
use Rattle.update_model.specs.Graph.{has}
use Rattle.sync_session.specs.Kept.{Kept}
use Rattle.sync_session.proofs.session.Session.gather.Goals as goal

at_most_one : (b : Bool) → cond b 0 1 ≤ 1
at_most_one true = omega arith
at_most_one false = omega arith

pub overflow_add-self : goal.overflow_add-self
overflow_add-self c =
    let few = subst (λ (k : Kept). k.state.turns < MAX_TURNS) (sym c.self.view_is) c.requires.running.turns in
    let one = at_most_one c.self.inside.began in
    omega (arith, few, one, c.fresh.ensures)

pub returns-clause-sought : goal.returns-clause-sought
returns-clause-sought c = λ id.
    c.in_ok-seek.ensures id ∙ ap (λ (ps : List Id). has (keys_in c.self.inside.sought) id || has ps id) c.preds.ensures.value ∙ ap (λ (k : Kept). has k.sought id || has (preds_of c.args.update) id) c.self.view_is
