use Rattle.std.proofs.Common.{◌≡◌, drop}
use Rattle.std.specs.BTreeMap.{get}
use Rattle.update_model.specs.declared.update_id.UpdateId.{UpdateId}
use Rattle.update_model.specs.Entry.{id_cmp}
use Rattle.graph_drawing.specs.Boxes.{reason_of}
use Rattle.log_texts.proofs.entries.reasons_by_id.Given as goal

-- the void lines from here on
abbrev pub invariant-loop-position : goal.invariant-loop-position
invariant-loop-position l = (id : UpdateId) → get id_cmp l.known id ≡ reason_of (drop l.position l.voids) id
