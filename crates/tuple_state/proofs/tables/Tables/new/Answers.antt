use Rattle.std.proofs.Common.{false, []}
use Rattle.table_model.specs.Visible.{rules_with}
use Rattle.tuple_state.specs.State.{state_of}
use Rattle.tuple_state.proofs.Emptiness.{kept_new}
use Rattle.tuple_state.proofs.tables.Tables.new.Goals as goal

pub invariant_of-result : goal.invariant_of-result
unfolding state_of
invariant_of-result c =
    rw (c.new.ensures.items, c.new-3.ensures.items, c.new-4.ensures.items, c.new-7.ensures.items, c.new-8.ensures.items)
    (kept_new (rules_with (λ number values. false) c.args.schema.now.tables) c.in_ok-shapes_of.field-0.items c.new-2.result c.new-5.result c.new-6.result c.new-9.result (c.new-9.ensures c.in_ok-shapes_of.field-0.items) c.new-2.ensures.empty c.new-5.ensures c.new-6.ensures
    (record {
      tables = c.in_ok-shapes_of.ensures.tables;
      closed = tt;
      is = λ i. record { shapes = c.in_ok-shapes_of.ensures.shapes i; count = 0; inserted = []; dropped = []; voids = [] };
    }))

pub returns : goal.returns
unfolding state_of
returns c ask = record {
  tables = c.in_ok-shapes_of.ensures.tables;
  closed = tt;
  is = λ i. record { shapes = c.in_ok-shapes_of.ensures.shapes i; count = 0; inserted = c.new.ensures.items i; dropped = c.new-4.ensures.items i; voids = c.new-7.ensures.items i };
}
