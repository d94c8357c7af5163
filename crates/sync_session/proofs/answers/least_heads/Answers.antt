use Rattle.std.proofs.Common.{◌∙◌, ◌||◌, List, Option, option_map, ap, sym, subst, take}
use Rattle.std.specs.BTreeSet.{BTreeSet, keys}
use Rattle.update_model.specs.declared.update_id.UpdateId.{UpdateId}
use Rattle.update_model.specs.Graph.{has}
use Rattle.session_rules.specs.declared.limits.TheConstants.{MAX_NEEDS}
use Rattle.session_rules.specs.Steps.{heads_in, AreLeast, Joins}
use Rattle.sync_session.specs.Kept.{hello_of}
use Rattle.sync_frames.specs.Payload as payload
use Rattle.sync_session.proofs.Starting.{least_few, least_of_both, least_of_one, least_rising}
use Rattle.sync_session.proofs.answers.least_heads.Goals as goal
use Rattle.sync_session.proofs.answers.least_heads.Goals.{in-Some+in_ok-join-2, in_default}

pub returns-clause-least : goal.returns-clause-least
returns-clause-least c = elim c.match-peer.branch [
  | in-Some+in_ok-join-2 w ↦
      subst (λ (p : Option payload.HelloData). AreLeast (λ id. has c.args.heads.now id || has (heads_in (option_map hello_of p)) id) MAX_NEEDS c.from_vec.result) (sym w.in-Some.is)
      (least_of_both (keys c.new-ids.result) c.args.heads.now (keys c.join.new.set) w.in-Some.hello.heads (keys w.join-in-Some.new.set) c.from_vec.result c.new-ids.ensures.empty c.in_ok-join.ensures
      (subst (λ (ids : List UpdateId). Joins (keys c.join.new.set) ids (keys w.join-in-Some.new.set)) (w.as_slice.ensures ∙ ap (λ (h : payload.HelloData). h.heads) w.hello.view_is) w.in_ok-join-2.ensures)
      (c.from_vec.ensures ∙ c.in_ok-least.ensures ∙ ap (λ (s : BTreeSet UpdateId). take MAX_NEEDS (keys s)) w.ids-is))
  | in_default w ↦
      subst (λ (p : Option payload.HelloData). AreLeast (λ id. has c.args.heads.now id || has (heads_in (option_map hello_of p)) id) MAX_NEEDS c.from_vec.result) (sym w.in_default.is)
      (least_of_one (keys c.new-ids.result) c.args.heads.now (keys c.join.new.set) c.from_vec.result c.new-ids.ensures.empty c.in_ok-join.ensures
      (c.from_vec.ensures ∙ c.in_ok-least.ensures ∙ ap (λ (s : BTreeSet UpdateId). take MAX_NEEDS (keys s)) w.ids-is))
]

pub returns-clause-few : goal.returns-clause-few
returns-clause-few c = least_few _ c.from_vec.result (returns-clause-least c)

pub returns-clause-rising : goal.returns-clause-rising
returns-clause-rising c = least_rising _ c.from_vec.result (returns-clause-least c)
