use Rattle.std.proofs.Common.{List, map, sym, subst}
use Rattle.outcomes.specs.Rules.{nodes_of, rules_of}
use Rattle.table_model.specs.declared.void_line.VoidLine.{VoidLine}
use Rattle.table_model.specs.Tables.{AreVoidsIn}
use Rattle.update_codec.specs.Parts.{entry_of}
use Rattle.update_model.specs.declared.update_id.UpdateId.{UpdateId}
use Rattle.update_model.specs.Graph.{AreHeads}
use Rattle.look_commands.proofs.telling.told_of.Goals as goal

pub returns : goal.returns
returns c =
    let graph = c.args.members.graph.now in
    let rules = rules_of c.args.members.schema.now in
    record {
      heads = subst (λ (l : List UpdateId). AreHeads (map entry_of graph) l) (sym c.in_ok-heads.ensures.items) c.in_ok-found.ensures;
      voids = subst (λ (l : List VoidLine). AreVoidsIn rules (nodes_of graph) l) (sym c.into_vec-voids.ensures) (c.in_ok-voids.ensures rules (nodes_of graph) c.requires);
      notes = c.in_ok-notes.ensures;
    }
