use Rattle.std.proofs.Common.{◌∙◌, List, length, ap, subst, arith}
use Rattle.update_model.specs.Node.{NodeData}
use Rattle.table_model.specs.Visible.{rules_with}
use Rattle.tuple_state.specs.State.{IsStateOf}
use Rattle.history.specs.Arrivals.{nodes_before}
use Rattle.history.proofs.Arriving.{length-before, length-nodes}
use Rattle.history.proofs.Fronts.{newer_nodes, nodes_split}
use Rattle.history.proofs.Steps.{heads_count, views_cut}
use Rattle.history.proofs.views.Views.cut.Goals as goal

pub cut-requires : goal.cut-requires
cut-requires c =
    let held = c.requires.held in
    let low = held.low in
    let size = heads_count held.ask held.schema held.members held.count c.args.self.now held.within held.are in omega (arith, size, low)

pub cut-requires-2 : goal.cut-requires-2
cut-requires-2 c =
    let held = c.requires.held in
    let low = held.low in
    let size = ap length held.are.places ∙ length-before held.members held.count held.within in omega (arith, size, low)

pub cut-requires-3 : goal.cut-requires-3
cut-requires-3 c =
    let held = c.requires.held in
    let low = held.low in
    let within = held.within in
    record {
      rules = rules_with held.ask held.schema.tables;
      newer = newer_nodes held.members held.count c.args.len;
      older = nodes_before held.members c.args.len;
      is = subst (λ (l : List NodeData). IsStateOf (rules_with held.ask held.schema.tables) l c.args.self.now.tables) (nodes_split held.members held.count c.args.len low) held.are.state;
      at = length-nodes held.members c.args.len (omega (arith, low, within));
    }

pub returns : goal.returns
returns c = λ held.
    let low = held.low in
    let within = held.within in
    views_cut held.ask held.schema held.members held.count c.args.len c.args.self.now (record { heads = c.cut.new.self; ancestry = c.cut-2.new.self; tables = c.cut-3.new.self }) low within held.are
    c.cut.ensures c.cut-2.ensures
    (c.cut-3.ensures (rules_with held.ask held.schema.tables) (newer_nodes held.members held.count c.args.len) (nodes_before held.members c.args.len)
    (subst (λ (l : List NodeData). IsStateOf (rules_with held.ask held.schema.tables) l c.args.self.now.tables) (nodes_split held.members held.count c.args.len low) held.are.state)
    (length-nodes held.members c.args.len (omega (arith, low, within))))
