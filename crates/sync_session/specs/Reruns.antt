-- Two runs of one pair of holders, and a run in which an end has ended.
use Rattle.std.specs.Prelude.{◌≡◌, ◌≢◌, ◌⊎◌, ℕ, List, ◌++◌, Some}
use Rattle.std.specs.List.Sorted.{IsPermutation}
use Rattle.session_rules.specs.Pair.{PairData}
use Rattle.session_rules.specs.declared.end.End.{End}
use Rattle.session_rules.specs.declared.end.End.TheVariants.{Done}
use Rattle.session_rules.specs.State.{FrameData}
use Rattle.sync_session.specs.declared.pair.PairEnd.{PairEnd}

-- Two runs answer the same, and leave the same members in either list, each as often. Which of two orders a holder adds a
-- batch in, its contract leaves open.
pub record AreOneRun (ended other : PairEnd) (after_a after_b others_a others_b : List (List ℕ)) : Type 0 where
  pub answer : other ≡ ended
  pub list_a : IsPermutation after_a others_a
  pub list_b : IsPermutation after_b others_b

-- one end has ended otherwise than done
pub record HasStopped (p : PairData) : Type 0 where
  pub ending : End
  pub undone : ending ≢ Done
  pub ended : (p.a.ended ≡ Some ending) ⊎ (p.b.ended ≡ Some ending)

-- Nothing is handed to the first end from here on: it stays what it is, its list too, and all that is on its way to it stays
-- on its way.
pub record IsLeftAlone (p q : PairData) : Type 0 where
  pub a : q.a ≡ p.a
  pub list_a : q.list_a ≡ p.list_a
  pub more : List FrameData
  pub to_a : q.to_a ≡ p.to_a ++ more
