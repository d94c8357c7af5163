-- A fault is told only where one was counted.
use Rattle.std.proofs.Common.{◌≡◌, ◌⊎◌, inl, inr, ℕ, List, refl, sym, ap, subst, ◌∙◌, Option, Some, None, Ok, Err, arith}
use Rattle.command_words.specs.Requests.{RequestText, heads, check, dump, init, keygen, apply, join, export, query, merge, notes}
use Rattle.bec_bytes.specs.Causes.{Rose}
use Rattle.update_stream.specs.declared.record_fault.RecordFault.TheVariants as records
use Rattle.schema_verdict.specs.declared.status.TheConstants.{STORE_FAULT, STREAM_FAULT}
use Rattle.outcomes.specs.declared.refusal.Refusal.{Refusal}
use Rattle.outcomes.specs.declared.refusal.Refusal.TheVariants as refusals
use Rattle.outcomes.specs.Outcome.{Ends, Outcome, Says, status_for, status_of}
use Rattle.outcomes.specs.Outside.{Outside}
use Rattle.bec_node.specs.Own.{EndsOf, IsOwn}

-- a refusal as an outcome
abbrev pub as_outcome : Refusal → Outcome
as_outcome refusal = Err refusal

-- ---- statuses

pub refusal_store : (refusal : Refusal) → status_for refusal ≡ STORE_FAULT → refusal ≡ refusals.StoreFault
refusal_store refusals.StoreFault e = refl
refusal_store (refusals.Record n (records.Check fault)) e = absurd (omega (arith, e))
refusal_store (refusals.Record n (records.Lacks id)) e = absurd (omega (arith, e))
refusal_store (refusals.Record n records.Full) e = absurd (omega (arith, e))
refusal_store other e = absurd (omega (arith, e))

pub refusal_stream : (refusal : Refusal) → status_for refusal ≡ STREAM_FAULT → refusal ≡ refusals.Stream
refusal_stream refusals.Stream e = refl
refusal_stream (refusals.Record n (records.Check fault)) e = absurd (omega (arith, e))
refusal_stream (refusals.Record n (records.Lacks id)) e = absurd (omega (arith, e))
refusal_stream (refusals.Record n records.Full) e = absurd (omega (arith, e))
refusal_stream other e = absurd (omega (arith, e))

status_store : (outcome : Outcome) → status_of outcome ≡ STORE_FAULT → outcome ≡ Err refusals.StoreFault
status_store (Ok text) e = absurd (omega (arith, e))
status_store (Err refusal) e = ap as_outcome (refusal_store refusal e)

status_stream : (outcome : Outcome) → status_of outcome ≡ STREAM_FAULT → outcome ≡ Err refusals.Stream
status_stream (Ok text) e = absurd (omega (arith, e))
status_stream (Err refusal) e = ap as_outcome (refusal_stream refusal e)

pub said_store : (old new : ℕ) (held held_new : Option (List ℕ)) (outcome : Outcome) (status : ℕ) → Says old new held held_new outcome status → status ≡ STORE_FAULT → outcome ≡ Err refusals.StoreFault
said_store old new held held_new (Err refusals.Memory) status said e = absurd (let own = said.0 in omega (arith, e, own))
said_store old new held held_new outcome status (inl whole) e = status_store outcome (sym whole.0 ∙ e)
said_store old new held held_new outcome status (inr front) e = absurd (let own = front.0 in omega (arith, e, own))

pub said_stream : (old new : ℕ) (held held_new : Option (List ℕ)) (outcome : Outcome) (status : ℕ) → Says old new held held_new outcome status → status ≡ STREAM_FAULT
    → (outcome ≡ Err refusals.Stream) ⊎ Rose old new
said_stream old new held held_new (Err refusals.Memory) status said e = absurd (let own = said.0 in omega (arith, e, own))
said_stream old new held held_new outcome status (inl whole) e = inl (status_stream outcome (sym whole.0 ∙ e))
said_stream old new held held_new outcome status (inr front) e = inr front.1

pub ended_store : (old new : ℕ) (held held_new : Option (List ℕ)) (outcome : Outcome) (status : ℕ) → Ends old new held held_new outcome status → status ≡ STORE_FAULT → outcome ≡ Err refusals.StoreFault
ended_store old new held held_new outcome status (inl said) e = said_store old new held held_new outcome status said e
ended_store old new held held_new outcome status (inr lacked) e = absurd (let own = lacked.1.0 in omega (arith, e, own))

pub ended_stream : (old new : ℕ) (held held_new : Option (List ℕ)) (outcome : Outcome) (status : ℕ) → Ends old new held held_new outcome status → status ≡ STREAM_FAULT
    → (outcome ≡ Err refusals.Stream) ⊎ Rose old new
ended_stream old new held held_new outcome status (inl said) e = said_stream old new held held_new outcome status said e
ended_stream old new held held_new outcome status (inr lacked) e = absurd (let own = lacked.1.0 in omega (arith, e, own))

-- ---- no refusal of its own is a fault

pub no_own_store : (request : RequestText) → IsOwn request refusals.StoreFault → ⊥
no_own_store (heads None) is = is
no_own_store (heads (Some dir)) is = is
no_own_store check is = is
no_own_store (dump None json) (inl is) = is
no_own_store (dump None json) (inr (inl is)) = is
no_own_store (dump None json) (inr (inr is)) = cc
no_own_store (dump (Some dir) json) is = is
no_own_store (init dir) (inl is) = is
no_own_store (init dir) (inr is) = cc
no_own_store (keygen dir lms ots) is = cc
no_own_store (apply dir _) (inl is) = is
no_own_store (apply dir _) (inr (inl is)) = is
no_own_store (apply dir _) (inr (inr (inl is))) = is
no_own_store (apply dir _) (inr (inr (inr is))) = is
no_own_store (join dir) (inl is) = is
no_own_store (join dir) (inr (inl is)) = is
no_own_store (join dir) (inr (inr is)) = is
no_own_store (export dir updates_only) is = is
no_own_store (query dir text json) (inl is) = is
no_own_store (query dir text json) (inr is) = is
no_own_store (merge first second) (inl is) = is
no_own_store (merge first second) (inr is) = is
no_own_store (notes dir) is = is

pub no_own_stream : (request : RequestText) → IsOwn request refusals.Stream → ⊥
no_own_stream (heads None) is = is
no_own_stream (heads (Some dir)) is = is
no_own_stream check is = is
no_own_stream (dump None json) (inl is) = is
no_own_stream (dump None json) (inr (inl is)) = is
no_own_stream (dump None json) (inr (inr is)) = cc
no_own_stream (dump (Some dir) json) is = is
no_own_stream (init dir) (inl is) = is
no_own_stream (init dir) (inr is) = cc
no_own_stream (keygen dir lms ots) is = cc
no_own_stream (apply dir _) (inl is) = is
no_own_stream (apply dir _) (inr (inl is)) = is
no_own_stream (apply dir _) (inr (inr (inl is))) = is
no_own_stream (apply dir _) (inr (inr (inr is))) = is
no_own_stream (join dir) (inl is) = is
no_own_stream (join dir) (inr (inl is)) = is
no_own_stream (join dir) (inr (inr is)) = is
no_own_stream (export dir updates_only) is = is
no_own_stream (query dir text json) (inl is) = is
no_own_stream (query dir text json) (inr is) = is
no_own_stream (merge first second) (inl is) = is
no_own_stream (merge first second) (inr is) = is
no_own_stream (notes dir) is = is

-- ---- outcomes

abbrev refusal_in : Refusal → Outcome → Refusal
refusal_in other (Ok text) = other
refusal_in other (Err refusal) = refusal

pub same_refusal : (a b : Refusal) → as_outcome a ≡ as_outcome b → a ≡ b
same_refusal a b e = ap (refusal_in a) e

-- Of refusals that are no fault, a fault comes only where its count rose.
pub store_rose : {S H R : Type 0} (before after : Outside S H R) (Own : Refusal → Type 0) → (Own refusals.StoreFault → ⊥) → (outcome : Outcome) → EndsOf Own before after outcome
    → outcome ≡ Err refusals.StoreFault → Rose before.shelf_faults after.shelf_faults
store_rose before after Own never (Ok text) ends e = absurd cc
store_rose before after Own never (Err refusal) (inl own) e = absurd (never (subst Own (same_refusal refusal refusals.StoreFault e) own))
store_rose before after Own never (Err refusal) (inr (inl source)) e = absurd (let other = same_refusal refusals.StoreFault refusals.Stream (sym e ∙ source.0) in cc)
store_rose before after Own never (Err refusal) (inr (inr (inl memory))) e = absurd (let other = same_refusal refusals.StoreFault refusals.Memory (sym e ∙ memory) in cc)
store_rose before after Own never (Err refusal) (inr (inr (inr failed))) e = failed.1

pub source_rose : {S H R : Type 0} (before after : Outside S H R) (Own : Refusal → Type 0) → (Own refusals.Stream → ⊥) → (outcome : Outcome) → EndsOf Own before after outcome
    → outcome ≡ Err refusals.Stream → Rose before.source_faults after.source_faults
source_rose before after Own never (Ok text) ends e = absurd cc
source_rose before after Own never (Err refusal) (inl own) e = absurd (never (subst Own (same_refusal refusal refusals.Stream e) own))
source_rose before after Own never (Err refusal) (inr (inl source)) e = source.1
source_rose before after Own never (Err refusal) (inr (inr (inl memory))) e = absurd (let other = same_refusal refusals.Stream refusals.Memory (sym e ∙ memory) in cc)
source_rose before after Own never (Err refusal) (inr (inr (inr failed))) e = absurd (let other = same_refusal refusals.Stream refusals.StoreFault (sym e ∙ failed.0) in cc)

-- a fault of what a command comes to, or of the sink
pub source_or_sink : {A B C : Type 0} → (A → B) → A ⊎ C → B ⊎ C
source_or_sink f (inl a) = inl (f a)
source_or_sink f (inr c) = inr c
