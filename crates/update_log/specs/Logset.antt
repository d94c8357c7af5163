-- The list that bytes stand for.
use Rattle.std.specs.Prelude.{◌≡◌, ℕ, ◌≤◌, List, ◌++◌, length}
use Rattle.update_model.specs.Rule.{RuleData}
use Rattle.bec_bytes.specs.Framed.{stream_of}
use Rattle.update_check.specs.Members.{AreMembers}

-- The bytes are these, and then others.
abbrev pub BeginsWith : List ℕ → List ℕ → Type 0
BeginsWith front bytes = (rest : List ℕ) × (bytes ≡ front ++ rest)

-- The bytes begin with the records of these members, which are a closed list under the rule, and with those of no longer
-- such list.
pub record IsLogset (rule : RuleData) (bytes : List ℕ) (members : List (List ℕ)) : Type 0 where
  pub taken : AreMembers rule members
  pub begins : BeginsWith (stream_of members) bytes
  pub longest : (others : List (List ℕ)) → AreMembers rule others → BeginsWith (stream_of others) bytes → length others ≤ length members
