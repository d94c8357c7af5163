-- What an act of a session needs of what its pass has seen.
use Rattle.std.specs.Prelude.{◌≡◌, Bool, true, false, List, ◌∷◌, Option, Some, None, Result, Ok, Err}
use Rattle.std.specs.declared.alloc.AllocError.{AllocError}
use mathlib.Core.List.{IsPrefix}
use Rattle.session_rules.specs.declared.end.End.{End}
use Rattle.session_rules.specs.declared.end.End.TheVariants.{Done, Peer, Full, Store}
use Rattle.sync_session.specs.Kept.{Kept, BelongsTo, IsFrameUnder}
use Rattle.sync_session.specs.declared.checked_frame.CheckedFrame.{CheckedFrame}
use Rattle.sync_session.specs.declared.out.Out.{Out}
use Rattle.update_model.specs.Batch.{store_limits}
use Rattle.update_model.specs.Rule.{RuleData}
use Rattle.shared_replica.specs.declared.entry.Entry.{Entry}
use Rattle.shared_replica.specs.declared.entry.Entry.TheVariants.{First}
use Rattle.shared_replica.specs.declared.entry.Opening.{Opening}
use Rattle.shared_replica.specs.Entries.{updates_of}

-- The list begins with a first entry, and this is the rule of its schema.
pub record IsRuledBy (list : List Entry) (rule : RuleData) : Type 0 where
  pub opening : Opening
  pub rest : List Entry
  pub first : list ≡ First opening ∷ rest
  pub same : opening.schema.rule ≡ rule

-- A frame is under the rule of the list.
pub record IsUnder (list : List Entry) (frame : CheckedFrame) : Type 0 where
  pub rule : RuleData
  pub ruled : IsRuledBy list rule
  pub under : IsFrameUnder rule frame

-- Under the rule of the list, the session belongs to the updates with which the list begins.
pub record BelongsIn (list : List Entry) (session : Kept) : Type 0 where
  pub rule : RuleData
  pub ruled : IsRuledBy list rule
  pub front : List Entry
  pub begins : IsPrefix front list
  pub belongs : BelongsTo store_limits rule session (updates_of front)

abbrev pub is_store : Option End → Bool
is_store None = false
is_store (Some Done) = false
is_store (Some (Peer fault)) = false
is_store (Some Full) = false
is_store (Some Store) = true

-- whether the log's disk failed in a step of a session
abbrev pub met_store : Result Out AllocError → Bool
met_store (Ok out) = is_store out.end
met_store (Err fault) = false
