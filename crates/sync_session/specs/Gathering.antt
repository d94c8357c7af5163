-- What an update does to a session, whatever list its holder has.
use Rattle.std.specs.Prelude.{◌≡◌, ◌≢◌, ◌≤◌, ℕ, false, List, [], Some}
use Rattle.update_check.specs.Signed.{IsChecked}
use Rattle.update_model.specs.Batch.{Limits}
use Rattle.update_model.specs.Entry.{Entry}
use Rattle.update_model.specs.Rule.{RuleData}
use Rattle.update_model.specs.declared.limits.TheConstants.{MAX_MEMBERS}
use Rattle.session_rules.specs.Pair.{frames_of}
use Rattle.session_rules.specs.declared.end.End.TheVariants.{Store}
use Rattle.sync_session.specs.Kept.{BelongsTo, Kept, Stands, StepsTo, out_of}
use Rattle.sync_session.specs.declared.checked_frame.CheckedFrame.TheVariants.{Item}
use Rattle.sync_session.specs.declared.out.Out.{Out}

-- The session belongs to the list of some holder.
abbrev pub BelongsSomewhere : Kept → Type 0
BelongsSomewhere k = (limits : Limits) × (rule : RuleData) × (members : List (List ℕ)) × (limits.updates ≤ MAX_MEMBERS) × BelongsTo limits rule k members

-- An update does the same over every list, which it leaves as it is. Nothing is said, and the session does not end by its store.
pub record GathersAnywhere (k : Kept) (update : List ℕ) (next : Kept) (out : Out) : Type 0 where
  pub steps : (limits : Limits) (members : List (List ℕ)) → StepsTo limits k members (Item update) next out members
  pub silent : (list : List Entry) → frames_of (out_of list out) ≡ []
  pub no_store : out.end ≢ Some Store

-- A session that belonged to a list, or stood over it, still does with an update that is under the rule.
pub record StaysWith (update : List ℕ) (k next : Kept) : Type 0 where
  pub belongs : (limits : Limits) (rule : RuleData) (members : List (List ℕ)) → IsChecked rule update → BelongsTo limits rule k members → BelongsTo limits rule next members
  pub stands : (rule : RuleData) (members : List (List ℕ)) → IsChecked rule update → Stands rule k members → next.failed ≡ false → Stands rule next members
