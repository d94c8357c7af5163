-- What a contract sees of a link and of a net in memory.
use Rattle.std.specs.Prelude.{◌≡◌, ℕ, ◌+◌, List, [], ◌∷◌, map, Some, Result, Contains}
use Rattle.bec_bytes.specs.Causes.{one_more, faults_after}
use Rattle.bec_links.specs.Nets.{NetState}

-- The numbers of the calls that are to fail, counted from 1; how many calls there were; and how many faults.
pub record PlanState : Type 0 where
  pub failing : List ℕ
  pub calls : ℕ
  pub faults : ℕ

-- The next call is one of those that are to fail.
abbrev pub IsToFail : PlanState → Type 0
IsToFail plan = Contains plan.failing (one_more plan.calls)

-- After a call.
abbrev pub after_call : {T E : Type 0} → Result T E → PlanState → PlanState
after_call result plan = record { failing = plan.failing; calls = one_more plan.calls; faults = faults_after result plan.faults }

-- After one that succeeded.
abbrev pub called : PlanState → PlanState
called plan = record plan { calls = one_more plan.calls }

-- The bytes that a link has still to give, those that were put on it, and its calls.
pub record MemLinkState : Type 0 where
  pub left : List ℕ
  pub held : List ℕ
  pub plan : PlanState

-- It counted no fault, and nothing was put on it.
pub record IsFresh (link : MemLinkState) : Type 0 where
  pub clean : link.plan.faults ≡ 0
  pub empty : link.held ≡ []

-- The links that a net is still to hand out; what was put on each that came back, in order; how many are out; how many faults
-- it counted; and its calls.
pub record MemNetState : Type 0 where
  pub coming : List MemLinkState
  pub given : List (List ℕ)
  pub out : ℕ
  pub faults : ℕ
  pub plan : PlanState

-- What a net in memory tells: all.
abbrev pub net_of : MemNetState → NetState
net_of net = record { coming = Some (map (λ link. link.left) net.coming); given = Some net.given; out = net.out; failed = net.plan.faults }

-- Its first link was handed out.
pub record HandsOutFirst (old : MemNetState) (link : MemLinkState) (new : MemNetState) : Type 0 where
  pub first : old.coming ≡ link ∷ new.coming
  pub rest : new ≡ record old { coming = new.coming; out = old.out + 1; plan = called old.plan }

-- After a call that failed.
abbrev pub after_failure : MemNetState → MemNetState
after_failure net = record net { faults = one_more net.faults; plan = record (called net.plan) { faults = one_more net.plan.faults } }
