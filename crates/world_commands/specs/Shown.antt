-- What is shown of a world.
use Rattle.std.specs.Prelude.{◌≡◌, ℕ, Bool, true, false, List, [], ◌++◌, length, Option, Some, None, slice_get}
use Rattle.std.specs.List.{flat_map}
use Rattle.byzantine_world.specs.Shown.{AreShownReplicas, sessions_shown}
use Rattle.key_audit.specs.Entries.{AreFound}
use Rattle.key_audit.specs.declared.doubled.Doubled.{Doubled}
use Rattle.schema.specs.Data.{Meaning}
use Rattle.world_report.specs.Reports.{doubled_texts, replicas_text, session_text}
use Rattle.world_report.specs.declared.shown.ShownReplica.{ShownReplica}
use Rattle.world_rules.specs.Worlds.{SiteData, WorldData, held_by}

-- Each replica has its own of these, in their order.
pub record AreOfSites {A : Type 0} (IsOf : SiteData → A → Type 0) (sites : List SiteData) (all : List A) : Type 0 where
  pub number : length all ≡ length sites
  pub each : (r : ℕ) (site : SiteData) (a : A) → slice_get sites r ≡ Some site → slice_get all r ≡ Some a → IsOf site a

-- how many one-time keys signed two messages among what a replica holds; a replica that is down has no number
abbrev pub CountsDoubled : SiteData → Option ℕ → Type 0
CountsDoubled site (Some count) = (site.is_down ≡ false) × ((entries : List Doubled) × AreFound (held_by site) entries × (count ≡ length entries))
CountsDoubled site None = site.is_down ≡ true

-- what is told of one-time keys that signed twice, where that is asked for
abbrev pub Audits : Bool → List SiteData → List ℕ → Type 0
Audits true sites text = (counts : List (Option ℕ)) × AreOfSites CountsDoubled sites counts × (text ≡ doubled_texts 0 counts)
Audits false sites text = text ≡ []

-- The text shows the replicas of a world, then its sessions, and then what an audit finds where one is asked for.
pub record IsShown (ask : Meaning) (audit : Bool) (w : WorldData) (text : List ℕ) : Type 0 where
  pub replicas : List ShownReplica
  pub audited : List ℕ
  pub are_replicas : AreShownReplicas ask w.sites replicas
  pub audits : Audits audit w.sites audited
  pub is : text ≡ replicas_text 0 replicas ++ (flat_map session_text (sessions_shown 0 w.sessions) ++ audited)
