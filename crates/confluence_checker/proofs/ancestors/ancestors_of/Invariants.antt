use Rattle.std.proofs.Common.{◌≡◌, take}
use Rattle.update_model.specs.declared.update_id.UpdateId.{UpdateId}
use Rattle.update_model.specs.Graph.{has}
use Rattle.table_model.specs.Verdicts.{ancestor_of}
use Rattle.confluence_checker.specs.Forms.{newest_first}
use Rattle.confluence_checker.proofs.ancestors.ancestors_of.Given as goal

abbrev pub invariant-loop-j : goal.invariant-loop-j
invariant-loop-j l = (id : UpdateId) → has l.ids.items id ≡ ancestor_of (newest_first (take l.j-index l.js)) l.node id
