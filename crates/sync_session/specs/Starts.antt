-- How a session begins, and what it remembers.
use Rattle.std.specs.Prelude.{◌≡◌, Bool, true, false, ℕ, List, [], map}
use Rattle.session_rules.specs.Course.{Greets, Remembers, opened}
use Rattle.session_rules.specs.State.{HelloData}
use Rattle.session_rules.specs.Steps.{begun}
use Rattle.session_rules.specs.declared.role.Role.{Role}
use Rattle.update_codec.specs.Parts.{entry_of}
use Rattle.update_model.specs.declared.update_id.UpdateId.{UpdateId}
use Rattle.update_model.specs.Rule.{RuleData}
use Rattle.sync_session.specs.Kept.{Kept, Stands, out_of, seen}
use Rattle.sync_session.specs.Pending.{nothing}
use Rattle.sync_session.specs.declared.out.Out.{Out}

-- a session before its own Hello
abbrev pub before_hello : Role → List ℕ → List ℕ → List UpdateId → Kept
before_hello role database node old = record { state = begun role database node old []; below = 0; pending = nothing; heads = []; sought = []; failed = false }

-- a session of this role before its own Hello
abbrev pub IsFresh : Role → Kept → Type 0
IsFresh role k = k ≡ before_hello role k.state.database k.state.node k.state.old

-- A session begins over its holder's list, and hands out its Hello where it is the initiator's.
pub record StartsAs (role : Role) (database node : List ℕ) (old : List UpdateId) (members : List (List ℕ)) (k : Kept) (gives : Out) : Type 0 where
  pub state : seen members k ≡ opened role database node old (map entry_of members)
  pub greets : Greets role (seen members k) (out_of (map entry_of members) gives)
  pub failed : k.failed ≡ false

-- the node that a Hello names
abbrev pub node_of : HelloData → List ℕ
node_of hello = hello.node

-- A session whose memory ran out remembers nothing. Any other remembers what the rules say, over any list that it stands on.
abbrev pub RemembersBy : Bool → Kept → List UpdateId → Type 0
RemembersBy true k ids = ids ≡ []
RemembersBy false k ids = (rule : RuleData) (members : List (List ℕ)) → Stands rule k members → Remembers (seen members k) ids
