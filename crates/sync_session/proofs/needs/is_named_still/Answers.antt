use Rattle.std.proofs.Common.{◌∙◌, sym}
use Rattle.update_model.specs.Graph.{has}
use Rattle.session_rules.proofs.Words.{or_left, or_right}
use Rattle.sync_session.proofs.Wanting.{found_by_search}
use Rattle.sync_session.proofs.needs.is_named_still.Goals as goal

pub returns-in-None : goal.returns-in-None
returns-in-None c = λ found. or_left (has c.args.heads.now c.args.id.now) _
    (found_by_search c.args.heads.now c.args.id.now c.binary_search.result c.binary_search.ensures.bound c.binary_search.ensures.ok (sym c.is_ok.ensures.value ∙ found))

pub returns-in-Some : goal.returns-in-Some
returns-in-Some c = λ found. or_right (has c.args.heads.now c.args.id.now) _ (c.is_named_by.ensures found)
