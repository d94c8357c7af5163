-- The Hello over a list.
use Rattle.std.specs.Prelude.{ℕ, List}
use Rattle.session_rules.specs.Steps.{IsHello, begun}
use Rattle.session_rules.specs.declared.role.Role.TheVariants.{Initiator}
use Rattle.update_model.specs.declared.update_id.UpdateId.{UpdateId}
use Rattle.update_model.specs.Entry.{Entry}
use Rattle.sync_session.specs.Kept.{hello_of}
use Rattle.sync_frames.specs.Payload as payload

-- the Hello of an end whose start set this list is
abbrev pub IsHelloOver : List ℕ → List ℕ → List UpdateId → List Entry → payload.HelloData → Type 0
IsHelloOver database node old list hello = IsHello (begun Initiator database node old list) (hello_of hello)
