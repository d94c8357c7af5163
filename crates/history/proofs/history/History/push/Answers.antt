use Rattle.std.proofs.Common.{[], ◌∷◌, ◌++◌, sym, subst}
use Rattle.update_check.specs.Members.{AreMembers}
use Rattle.table_model.specs.Visible.{rules_with}
use Rattle.history.specs.Histories.{HistoryData}
use Rattle.history.proofs.Steps.{members_pushed, pushed_history, same_history, verdict_pushed}
use Rattle.history.proofs.history.History.push.Goals as goal

pub grow_by_one-requires-clause-unlimited : goal.grow_by_one-requires-clause-unlimited
grow_by_one-requires-clause-unlimited g c κs within = c.self.invariant.is.unlimited

pub grow_by_one-requires-clause-views : goal.grow_by_one-requires-clause-views
grow_by_one-requires-clause-views g c κs within = c.self.invariant.are

pub invariant_of-self : goal.invariant_of-self
invariant_of-self g c =
    let at = c.self.inside in
    let more = subst (λ (h : HistoryData). AreMembers h.schema.rule (h.members ++ c.args.update ∷ [])) (sym c.self.view_is) c.requires in
    record {
      is = record {
        unlimited = c.self.invariant.is.unlimited;
        members = members_pushed c.grow_by_one.result at.schema.rule at.graph c.grow_by_one.new.graph c.args.update more c.self.invariant.is.members c.grow_by_one.ensures.pushed c.grow_by_one.ensures.same;
      };
      are = c.grow_by_one.ensures.views;
    }

pub returns : goal.returns
returns g c =
    let at = c.self.inside in
    rw (← c.self.view_is) (record {
      pushed = pushed_history c.grow_by_one.result at.schema c.grow_by_one.new.graph (at.graph ++ c.args.update ∷ []) c.grow_by_one.ensures.pushed;
      verdict = verdict_pushed c.grow_by_one.result (rules_with g.L.Relation.answer at.schema.tables) at.graph c.grow_by_one.new.graph c.args.update c.grow_by_one.ensures.pushed c.grow_by_one.ensures.verdict;
      same = same_history c.grow_by_one.result at.schema c.grow_by_one.new.graph at.graph c.grow_by_one.ensures.same;
    })
