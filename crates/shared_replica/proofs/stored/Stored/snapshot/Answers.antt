use Rattle.std.proofs.Common.{rules, ℕ, List, map, subst}
use Rattle.history.specs.Histories.{nodes_of}
use Rattle.row_check.specs.Checksum.{is_luhn}
use Rattle.shared_replica.specs.Entries.{Story}
use Rattle.table_model.specs.Visible.{rules_with}
use Rattle.tuple_state.specs.State.{IsStateOf}
use Rattle.update_codec.specs.Parts.{entry_of}
use Rattle.update_model.specs.Graph.{AreHeads}
use Rattle.shared_replica.proofs.Growing.{known, updates_now}
use Rattle.shared_replica.proofs.stored.Stored.snapshot.Goals as goal

pub returns-in_err-heads-clause-list : goal.returns-in_err-heads-clause-list
returns-in_err-heads-clause-list g c = known _ _ _ _ _ c.self.invariant _ c.self.view_is

pub returns-in_err-tables-clause-list : goal.returns-in_err-tables-clause-list
returns-in_err-tables-clause-list g c = known _ _ _ _ _ c.self.invariant _ c.self.view_is

pub returns-clause-heads : goal.returns-clause-heads
returns-clause-heads g c =
    let heads : AreHeads (map entry_of c.self.inside.replica.history.members) c.from_vec-heads.result = search rules in
    subst (λ (us : List (List ℕ)). AreHeads (map entry_of us) c.from_vec-heads.result) (updates_now _ _ _ _ _ c.self.invariant _ c.self.view_is) heads

pub returns-clause-tables : goal.returns-clause-tables
returns-clause-tables g c =
    let inside = c.self.inside in
    let tables : IsStateOf (rules_with is_luhn inside.replica.history.schema.tables) (nodes_of inside.replica.history.members) c.in_ok-tables.tables = search rules in
    let there = subst (λ (s : Story). IsStateOf (rules_with is_luhn s.store.history.schema.tables) (nodes_of inside.replica.history.members) c.in_ok-tables.tables) c.self.view_is tables in
    subst (λ (us : List (List ℕ)). IsStateOf (rules_with is_luhn c.args.self.now.store.history.schema.tables) (nodes_of us) c.in_ok-tables.tables) (updates_now _ _ _ _ _ c.self.invariant _ c.self.view_is) there

pub returns-clause-list : goal.returns-clause-list
returns-clause-list g c = known _ _ _ _ _ c.self.invariant _ c.self.view_is
