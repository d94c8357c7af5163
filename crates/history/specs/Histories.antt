-- What a history is.
use Rattle.std.specs.Prelude.{ℕ, List, map, reverse, IsTrue}
use Rattle.std.specs.List.{list_all}
use Rattle.update_model.specs.Node.{NodeData}
use Rattle.update_check.specs.Members.{AreMembers}
use Rattle.update_check.specs.Signed.{node_of}
use Rattle.schema.specs.Data.{Meaning, SchemaData}
use Rattle.table_model.specs.declared.verdict.Verdict.{Verdict}
use Rattle.table_model.specs.Verdicts.{is_unlimited, judge_next, judged}
use Rattle.table_model.specs.Visible.{rules_with}

-- A schema, and updates in the order of arrival.
pub record HistoryData : Type 0 where
  pub schema : SchemaData
  pub members : List (List ℕ)

-- what tables see of members, newest first
abbrev pub nodes_of : List (List ℕ) → List NodeData
nodes_of members = reverse (map node_of members)

-- No table of the schema has an ATMOST or a UNIQUE without KEEP LEAST. The updates are a closed list under its rule and within the limits.
pub record IsHistory (history : HistoryData) : Type 0 where
  pub unlimited : IsTrue (list_all is_unlimited history.schema.tables)
  pub members : AreMembers history.schema.rule history.members

-- the verdict on a node after its ancestors among the members of a history
abbrev pub verdict_after : Meaning → HistoryData → NodeData → Verdict
verdict_after ask history node =
    (judge_next (rules_with ask history.schema.tables) (judged (rules_with ask history.schema.tables) (nodes_of history.members)) node).verdict
