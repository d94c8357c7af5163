use Rattle.std.proofs.Common.{◌≡◌, map, rules}
use Rattle.std.specs.Ordering.{is_lt}
use Rattle.std.proofs.lemmas.List.Sorted.{answers_always, ranks_by}
use Rattle.update_codec.specs.Parts.{entry_of}
use Rattle.update_check.specs.Signed.{node_of}
use Rattle.table_model.specs.Nodes.{IsClosed}
use Rattle.table_model.proofs.Rising.{rising_from_sort}
use Rattle.graph_drawing.specs.Depths.{nodes_of, rank, rank_cmp}
use Rattle.graph_drawing.proofs.Arrived.{are_nodes}
use Rattle.graph_drawing.proofs.Ranks.{arrived_distinct, arrived_exact, rank_cmp_total}
use Rattle.graph_drawing.proofs.sorting.place_in_order.Goals as goal

pub returns : goal.returns
returns c =
    let graph = c.args.graph.now in
    let closed : IsClosed (nodes_of graph) = c.arrivals_are_closed.ensures (map entry_of graph) (map node_of graph) (are_nodes graph) c.len.ensures.closed in
    record {
      rising =
          rising_from_sort rank rank_cmp rank_cmp_total c.in_ok-placed.placed.items c.sort_unstable_by.new.self.items c.sort_unstable_by.ensures.permutation
          (arrived_distinct (nodes_of graph) closed c.in_ok-placed.placed.items c.in_ok-placed.ensures)
          (c.sort_unstable_by.ensures.sorted (λ x y. is_lt (rank_cmp (rank x) (rank y))) (ranks_by rank_cmp_total rank)
          (answers_always _ (λ a r. is_lt r ≡ is_lt (rank_cmp (rank a.0.now) (rank a.1.0.now))) _ (λ f a r q k. search rules)));
      exact = arrived_exact (nodes_of graph) c.in_ok-placed.placed.items c.sort_unstable_by.new.self.items c.in_ok-placed.ensures c.sort_unstable_by.ensures.permutation;
    }
