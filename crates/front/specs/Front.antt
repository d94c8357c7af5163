-- What a run of the program does, with the families of commands that the front has.
use Rattle.std.specs.Prelude.{◌≡◌, ◌⊎◌, ℕ, List, [], map, None, Some, String}
use Rattle.std.specs.declared.alloc.Global.{Global}
use Rattle.std.specs.Io.KnownBytes.{Appends}
use Rattle.std.specs.String.{string_bytes}
use Rattle.bec_bytes.specs.Causes.{Rose}
use Rattle.bec_node.specs.Families.{BesideText, IsBesideCommand}
use Rattle.bec_node.specs.Run.{IsNetCommand, NetSeen, RunsOver}
use Rattle.bec_node.specs.RunAlone.{IsCommand}
use Rattle.command_words.specs.ImportRequests.{ImportText, import_request_of}
use Rattle.command_words.specs.LookRequests.{LookText, look_request_of}
use Rattle.command_words.specs.NetRequests.{NetText}
use Rattle.command_words.specs.Requests.{RequestText}
use Rattle.import_commands.specs.Bringing.{Brings}
use Rattle.look_commands.specs.Ending.{lacks_one, status_with}
use Rattle.look_commands.specs.Looks.{LookComes}
use Rattle.outcomes.specs.Outcome.{Ends, Outcome}
use Rattle.outcomes.specs.Outside.{IsUntouched, Outside}
use Rattle.schema_verdict.specs.Written.{SinkState}
use Rattle.schema_verdict.specs.declared.status.TheConstants.{OUT_OF_MEMORY, STORE_FAULT, STREAM_FAULT}

-- `bec_node::run` knows the words: they ask for something over a net, of one of its families, or alone.
abbrev pub IsRunCommand : List (String Global) → Type 0
IsRunCommand words = ((request : NetText) × IsNetCommand request words)
    ⊎ (((request : BesideText) × IsBesideCommand request words) ⊎ ((request : RequestText) × IsCommand request words))

-- A request that looks at a store comes to an outcome, which is said. Where one update is asked for and it is not there, nothing is said, and that is refused.
pub record Looks {S H R : Type 0} (request : LookText) (before after : Outside S H R) (sink sink_new : SinkState) (status : ℕ) : Type 0 where
  pub outcome : Outcome
  pub comes : LookComes request before after outcome
  pub own : ℕ
  pub said : Ends sink.faults sink_new.faults sink.held sink_new.held outcome own
  pub status_is : status ≡ status_with (lacks_one request outcome) own

-- A request that brings updates into a directory comes to an outcome, which is said.
pub record IsBrought {S H R : Type 0} (request : ImportText) (before after : Outside S H R) (sink sink_new : SinkState) (status : ℕ) : Type 0 where
  pub outcome : Outcome
  pub brings : Brings request before after outcome
  pub said : Ends sink.faults sink_new.faults sink.held sink_new.held outcome status

-- A fault of the store is told only where the shelf counted one, and a fault of a stream only where the source or the sink did.
pub record Blames {S H R : Type 0} (before after : Outside S H R) (sink sink_new : SinkState) (status : ℕ) : Type 0 where
  pub store : status ≡ STORE_FAULT → Rose before.shelf_faults after.shelf_faults
  pub stream : status ≡ STREAM_FAULT → Rose before.source_faults after.source_faults ⊎ Rose sink.faults sink_new.faults

-- A run of the program. Words that ask for something that looks at a store, or brings updates into a directory, come to that, and leave the net as it was; other
-- words come to what `bec_node::run` says; and without memory for reading the words nothing is done.
pub data FrontRuns {S H R N : Type 0} (words : List (String Global)) (before after : Outside S H R) (net net_new : NetSeen N) (sink sink_new : SinkState) (status : ℕ) : Type 0 where
  looks : (request : LookText) → look_request_of (map string_bytes words) ≡ Some request → Looks request before after sink sink_new status → net_new ≡ net
      → FrontRuns words before after net net_new sink sink_new status
  brings : (request : ImportText) → import_request_of (map string_bytes words) ≡ Some request → IsBrought request before after sink sink_new status → net_new ≡ net
      → FrontRuns words before after net net_new sink sink_new status
  runs : look_request_of (map string_bytes words) ≡ None → import_request_of (map string_bytes words) ≡ None → RunsOver words before after net net_new sink sink_new status → FrontRuns words before after net net_new sink sink_new status
  unread : IsUntouched before after → net_new ≡ net → status ≡ OUT_OF_MEMORY → Appends sink.held sink_new.held [] → FrontRuns words before after net net_new sink sink_new status
