use Rattle.std.proofs.Common.{refl, sym, subst, All}
use Rattle.update_check.specs.Signed.{IsChecked}
use Rattle.table_model.specs.Visible.{rules_with}
use Rattle.history.specs.Histories.{HistoryData}
use Rattle.history.proofs.Steps.{members_grown, same_history}
use Rattle.history.proofs.history.History.add_batch.Goals as goal

pub grow-requires-clause-unlimited : goal.grow-requires-clause-unlimited
grow-requires-clause-unlimited g c κs within = c.self.invariant.is.unlimited

pub grow-requires-clause-views : goal.grow-requires-clause-views
grow-requires-clause-views g c κs within = c.self.invariant.are

pub invariant_of-self : goal.invariant_of-self
invariant_of-self g c =
    let at = c.self.inside in
    let checked = subst (λ (h : HistoryData). All (IsChecked h.schema.rule) c.args.batch.items) (sym c.self.view_is) c.requires in
    record {
      is = record {
        unlimited = c.self.invariant.is.unlimited;
        members = members_grown at.schema.rule at.graph c.args.batch.items c.grow.new.graph c.self.invariant.is.members checked c.grow.ensures.grown c.grow.ensures.closed c.grow.ensures.within;
      };
      are = c.grow.ensures.views;
    }

pub returns : goal.returns
returns g c =
    let at = c.self.inside in
    rw (← c.self.view_is) (record {
      schema = refl;
      added = c.grow.ensures.added;
      full = c.grow.ensures.full;
      same = same_history c.grow.result at.schema c.grow.new.graph at.graph c.grow.ensures.same;
    })
