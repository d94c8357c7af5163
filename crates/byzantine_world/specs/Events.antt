-- What an event does to the code of a world.
use Rattle.std.specs.Prelude.{◌≡◌, ◌≤◌, ℕ, Bool, true, false, if◌then◌else◌, List, [], ◌∷◌, length, Option, Some, None, map}
use Rattle.update_model.specs.Rows.{AreOps}
use Rattle.update_model.specs.declared.op.Op.{Op}
use Rattle.update_model.specs.declared.limits.TheConstants.{MAX_OPS}
use Rattle.schema.specs.Data.{Meaning}
use Rattle.sync_frames.specs.Payload.{HelloData}
use Rattle.sync_session.specs.declared.checked_frame.CheckedFrame.{CheckedFrame}
use Rattle.sync_session.specs.declared.checked_frame.CheckedFrame.TheVariants as frames
use Rattle.byzantine_world.specs.Codes.{Shows, cut_talk, is_over_talk, takes_part_in}
use Rattle.byzantine_world.specs.declared.talk.Talk.{Talk}
use Rattle.world_rules.specs.declared.event.Event.{Event}
use Rattle.world_rules.specs.declared.event.Event.TheVariants as events
use Rattle.world_rules.specs.declared.event.Stepped.{Stepped}
use Rattle.world_rules.specs.declared.event.Stepped.TheVariants as stepped
use Rattle.world_rules.specs.Happens.{Happens}
use Rattle.world_rules.specs.Worlds.{SiteData, WorldData}

-- Of whatever world the code shows, the event happens, and the code shows the world that it comes to.
abbrev pub IsStep : Meaning → List SiteData → List (Option Talk) → Event → Stepped → List SiteData → List (Option Talk) → Type 0
IsStep ask sites sessions event answer sites' sessions' =
    (w : WorldData) → Shows sites sessions w → (next : WorldData) × Happens ask w event answer next × Shows sites' sessions' next

-- a session is cut where the replica takes part
abbrev pub cut_code_with : ℕ → Option Talk → Option Talk
cut_code_with r None = None
cut_code_with r (Some talk) = Some (if takes_part_in r talk then cut_talk talk else talk)

-- where a replica failed, its sessions are cut
abbrev pub cut_where : Bool → ℕ → List (Option Talk) → List (Option Talk)
cut_where true r sessions = map (cut_code_with r) sessions
cut_where false r sessions = sessions

-- The operations of a Make are those that a body may hold.
pub record AreOpsOfMake (ops : List Op) : Type 0 where
  pub few : length ops ≤ MAX_OPS
  pub form : AreOps 0 ops

abbrev pub HasForm : Event → Type 0
HasForm (events.Make r ops) = AreOpsOfMake ops
HasForm (events.Start s first second) = Unit {0}
HasForm (events.Carry s forward) = Unit {0}
HasForm (events.Cut s) = Unit {0}
HasForm (events.Feed s bytes) = Unit {0}
HasForm (events.Stop r calls) = Unit {0}
HasForm (events.Restart r choice) = Unit {0}

-- a Hello on its way, where there is one
abbrev pub way_of : Option HelloData → List CheckedFrame
way_of None = []
way_of (Some hello) = frames.Hello hello ∷ []

abbrev pub CutsBy : Bool → Talk → Stepped → Option Talk → Type 0
CutsBy true talk answer new = (answer ≡ stepped.NoSuch) × (new ≡ Some talk)
CutsBy false talk answer new = (answer ≡ stepped.Done) × (new ≡ Some (cut_talk talk))

-- A session was cut, or there was none with an end to be cut, and nothing changed.
abbrev pub Cuts : Option Talk → Stepped → Option Talk → Type 0
Cuts None answer new = (answer ≡ stepped.NoSuch) × (new ≡ None)
Cuts (Some talk) answer new = CutsBy (is_over_talk talk) talk answer new
