use Rattle.std.proofs.Common.{◌≡◌, drop}
use Rattle.std.specs.BTreeMap.{get}
use Rattle.std.specs.Option.{is_some}
use Rattle.update_model.specs.declared.update_id.UpdateId.{UpdateId}
use Rattle.update_model.specs.Entry.{id_cmp}
use Rattle.graph_drawing.specs.Boxes.{is_head}
use Rattle.log_texts.proofs.entries.heads_by_id.Given as goal

-- the heads from here on
abbrev pub invariant-loop-position : goal.invariant-loop-position
invariant-loop-position l = (id : UpdateId) → is_some (get id_cmp l.known id) ≡ is_head (drop l.position l.heads) id
