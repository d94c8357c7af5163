-- What one call does to the plan of a disk in memory.
use Rattle.std.proofs.Common.{◌≡◌, inl, inr, true, false, List, refl, sym, ◌∙◌, ap, subst, Ok, Err}
use Rattle.std.proofs.lemmas.Bool.{false≢true}
use Rattle.bec_bytes.specs.Causes.{one_more}
use Rattle.bec_disk.specs.Plan.{PlanState, IsToFail, Counts, one_unrecorded}
use Rattle.bec_disk.specs.Replay.{IsNoted}
use Rattle.bec_disk.specs.declared.disk_call.DiskCall.{DiskCall}

-- the call was to fail
counts_failed : {T E : Type 0} (old was new : PlanState) (error : E) → was ≡ old → (true ≡ true → IsToFail was) → new ≡ record was { calls = one_more was.calls; faults = one_more was.faults }
    → Counts {T = T} old (Err error) new
counts_failed {T = T} old was new error same fails is =
    subst (λ (plan : PlanState). Counts {T = T} plan (Err error) new) same
    (subst (λ (plan : PlanState). Counts {T = T} was (Err error) plan) (sym is) record {
      failing = refl;
      last = refl;
      calls = refl;
      faults = refl;
      fails = λ to_fail. (refl, refl);
      starves = λ passes. absurd (passes (fails refl));
    })

-- the call was to fail, and was noted or not
pub counts_noted : {T E : Type 0} (call : DiskCall) (calls later : List DiskCall) (old was mid new : PlanState) (error : E) → was ≡ old → (true ≡ true → IsToFail was)
    → mid ≡ record was { calls = one_more was.calls; faults = one_more was.faults } → IsNoted call calls later mid new → Counts {T = T} old (Err error) new
counts_noted call calls later old was mid new error same fails is (inl noted) = counts_failed old was new error same fails (noted.1 ∙ is)
counts_noted {T = T} call calls later old was mid new error same fails is (inr missed) =
    subst (λ (plan : PlanState). Counts {T = T} plan (Err error) new) same
    (subst (λ (plan : PlanState). Counts {T = T} was (Err error) plan) (sym (missed.1 ∙ ap one_unrecorded is)) record {
      failing = refl;
      last = refl;
      calls = refl;
      faults = refl;
      fails = λ to_fail. (refl, refl);
      starves = λ passes. absurd (passes (fails refl));
    })

-- it passed
pub counts_passed : {T E : Type 0} (old was new : PlanState) (value : T) → was ≡ old → (IsToFail was → false ≡ true) → new ≡ record was { calls = one_more was.calls } → Counts {E = E} old (Ok value) new
counts_passed {E = E} old was new value same fails is =
    subst (λ (plan : PlanState). Counts {E = E} plan (Ok value) new) same
    (subst (λ (plan : PlanState). Counts {E = E} was (Ok value) plan) (sym is) record {
      failing = refl;
      last = refl;
      calls = refl;
      faults = refl;
      fails = λ to_fail. absurd (false≢true (fails to_fail));
      starves = λ passes. (tt, refl);
    })

-- there was no memory for it
pub counts_starved : {T E : Type 0} (old was mid new : PlanState) (error : E) → was ≡ old → (IsToFail was → false ≡ true) → mid ≡ record was { calls = one_more was.calls }
    → new ≡ record mid { faults = one_more mid.faults; starved = true } → Counts {T = T} old (Err error) new
counts_starved {T = T} old was mid new error same fails passed is =
    subst (λ (plan : PlanState). Counts {T = T} plan (Err error) new) same
    (subst (λ (plan : PlanState). Counts {T = T} was (Err error) plan)
    (sym (is ∙ ap (λ (plan : PlanState). let after : PlanState = record plan { faults = one_more plan.faults; starved = true } in after) passed)) record {
      failing = refl;
      last = refl;
      calls = refl;
      faults = refl;
      fails = λ to_fail. absurd (false≢true (fails to_fail));
      starves = λ passes. (refl, tt);
    })
