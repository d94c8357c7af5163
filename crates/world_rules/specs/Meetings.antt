-- A session of two correct replicas.
use Rattle.std.specs.Prelude.{ℕ, Bool, true, false, List, map}
use Rattle.update_codec.specs.Parts.{entry_of}
use Rattle.session_rules.specs.Pair.{PairData}
use Rattle.session_rules.specs.State.{SessionData, FrameData}

-- An end: what the rules of sessions have made of it, and whether it was cut.
pub record EndData : Type 0 where
  pub state : SessionData
  pub is_cut : Bool

-- Who began it and who answers, by their numbers; their ends; and the frames on the way to either, which are read in order.
pub record TwoEnds : Type 0 where
  pub first : ℕ
  pub second : ℕ
  pub a : EndData
  pub b : EndData
  pub to_a : List FrameData
  pub to_b : List FrameData

-- the same, seen from the other end
abbrev pub turned : TwoEnds → TwoEnds
turned m = record { first = m.second; second = m.first; a = m.b; b = m.a; to_a = m.to_b; to_b = m.to_a }

-- seen from the end that reads: a frame goes forward to the end that answers
abbrev pub seen_from : Bool → TwoEnds → TwoEnds
seen_from true m = turned m
seen_from false m = m

-- the two ends over the lists of their replicas
abbrev pub over_lists : TwoEnds → List (List ℕ) → List (List ℕ) → PairData
over_lists m list_a list_b = record { a = m.a.state; list_a = map entry_of list_a; b = m.b.state; list_b = map entry_of list_b; to_a = m.to_a; to_b = m.to_b }
