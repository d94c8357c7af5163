use Rattle.std.proofs.Common.{◌≡◌, drop}
use Rattle.std.specs.BTreeMap.{get}
use Rattle.std.specs.Option.{option_copied}
use Rattle.update_model.specs.declared.update_id.UpdateId.{UpdateId}
use Rattle.update_model.specs.Entry.{id_cmp}
use Rattle.graph_drawing.specs.Boxes.{note_of}
use Rattle.log_texts.proofs.entries.notes_by_id.Given as goal

-- the notes from here on
abbrev pub invariant-loop-position : goal.invariant-loop-position
invariant-loop-position l = (id : UpdateId) → option_copied (get id_cmp l.known id) ≡ note_of (drop l.position l.notes) id
