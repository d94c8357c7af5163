use Rattle.std.proofs.Common.{sym, subst, arith}
use Rattle.history.specs.Kept.{AreViewsOf}
use Rattle.history.proofs.views.Views.take_from.Goals as goal

pub cut-requires : goal.cut-requires
cut-requires g c =
    let same = c.in-Err.ensures.same in
    record {
      held = record {
        ask = g.L.Relation.answer;
        schema = c.args.schema.now;
        members = c.args.graph.now;
        count = c.loop-position.position;
        closed = c.len-position-end.ensures.closed;
        low = omega arith;
        within = omega arith;
        are = subst (AreViewsOf g.L.Relation.answer c.args.schema.now c.args.graph.now c.loop-position.position) (sym same) c.loop-position.invariant;
      };
    }

pub returns-in-Err-clause-none : goal.returns-in-Err-clause-none
returns-in-Err-clause-none g c =
    let same = c.in-Err.ensures.same in
    c.cut.ensures (record {
      ask = g.L.Relation.answer;
      schema = c.args.schema.now;
      members = c.args.graph.now;
      count = c.loop-position.position;
      closed = c.len-position-end.ensures.closed;
      low = omega arith;
      within = omega arith;
      are = subst (AreViewsOf g.L.Relation.answer c.args.schema.now c.args.graph.now c.loop-position.position) (sym same) c.loop-position.invariant;
    })
