-- One turn: a record is taken, and what it changes is told.
use Rattle.std.proofs.Common.{◌≡◌, ℕ, ◌+◌, List, subst, Option, None}
use Rattle.schema.specs.Data.{SchemaData}
use Rattle.replica.specs.Holding.{KeepsOn}
use Rattle.replica.specs.Replicas.{ReplicaState}
use Rattle.live_view.specs.Shown.{RefreshesOn}
use Rattle.live_view.specs.Wishes.{is_at_least}
use Rattle.live_view.specs.declared.change.Change.{Change}
use Rattle.outcomes.specs.Rules.{nodes_of, rules_of}
use Rattle.update_stream.specs.Steps.{Takes}
use Rattle.watch_command.specs.Blocks.{told_block}
use Rattle.watch_command.specs.Steps.{moment}
use Rattle.watch_command.specs.Watching.{CountView, Turn}

-- what a refresh over the store hands out is told
pub turned : (count : ℕ) (old new : ReplicaState) (view view_new : CountView) (bytes text : List ℕ) → Takes old.history.schema.rule old.history.members bytes new.history.members None → KeepsOn old new
    → (change : Option Change) × RefreshesOn is_at_least (rules_of new.history.schema) (nodes_of new.history.members) view change view_new × (text ≡ told_block change (count + 1))
    → Turn old.history.schema (count + 1) (moment old view) bytes text (moment new view_new)
turned count old new view view_new bytes text takes keeps told = record {
  takes = takes;
  change = told.0;
  refreshes = subst (λ (s : SchemaData). RefreshesOn is_at_least (rules_of s) (nodes_of new.history.members) view told.0 view_new) keeps.store.schema told.1;
  told = told.2;
}
