-- Updates as tables see them.
use Rattle.std.specs.Prelude.{◌≤◌, List, length}
use Rattle.update_model.specs.declared.author_key.AuthorKey.{AuthorKey}
use Rattle.update_model.specs.declared.limits.TheConstants.{MAX_NODE_OPS}
use Rattle.update_model.specs.declared.op.Op.{Op}
use Rattle.update_model.specs.declared.update_id.UpdateId.{UpdateId}

-- an update without its bytes and signature: its id, its direct predecessors, its author and its operations
pub record NodeData : Type 0 where
  pub id : UpdateId
  pub preds : List UpdateId
  pub author : AuthorKey
  pub ops : List Op

-- a node has no more operations than it may
abbrev pub IsNode : NodeData → Type 0
IsNode node = length node.ops ≤ MAX_NODE_OPS
