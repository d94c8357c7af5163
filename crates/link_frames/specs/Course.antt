-- One end of a session from its beginning, over a list that only grows.
use Rattle.std.specs.Prelude.{◌≡◌, ℕ, List, [], ◌∷◌, ◌++◌, map}
use mathlib.Core.List.{IsPrefix}
use Rattle.update_codec.specs.Parts.{entry_of}
use Rattle.update_model.specs.declared.update_id.UpdateId.{UpdateId}
use Rattle.update_model.specs.Batch.{Limits}
use Rattle.session_rules.specs.Course.{Greets, opened}
use Rattle.session_rules.specs.Pair.{frames_of}
use Rattle.session_rules.specs.State.{FrameData, OutData, SessionData}
use Rattle.session_rules.specs.declared.role.Role.{Role}
use Rattle.session_rules.specs.Steps.{Steps}

-- The end began over a list that begins with what was known then, and took frames one after another by the rules of sessions. Between two of them the list
-- grew at most. It came to this state, over this list, by these frames that it heard, and said these in answer.
pub data Comes (limits : Limits) (role : Role) (database node : List ℕ) (old : List UpdateId) (known : List (List ℕ)) : SessionData → List (List ℕ) → List FrameData → List FrameData → Type 0 where
  opens : (s : SessionData) (members : List (List ℕ)) (heard said : List FrameData) (out : OutData) → s ≡ opened role database node old (map entry_of members) → Greets role s out
      → heard ≡ [] → said ≡ frames_of out → IsPrefix known members → Comes limits role database node old known s members heard said
  hears : (s t : SessionData) (members before after : List (List ℕ)) (heard said all answers : List FrameData) (frame : FrameData) (out : OutData)
      → Comes limits role database node old known s members heard said → IsPrefix members before → Steps limits s (map entry_of before) frame t out (map entry_of after)
      → all ≡ heard ++ frame ∷ [] → answers ≡ said ++ frames_of out → Comes limits role database node old known t after all answers
