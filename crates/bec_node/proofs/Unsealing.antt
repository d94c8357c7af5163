-- What `unseal` comes to, as the program tells it.
use Rattle.std.proofs.Common.{◌≡◌, ◌∙◌, ◌⊎◌, inl, inr, ℕ, ◌<◌, ◌≤◌, List, length, codes, refl, sym, ap, subst, Option, Ok, Err, Vec, arith}
use Rattle.std.specs.declared.alloc.Global.{Global}
use Rattle.hss_chain.specs.Sealing.{SealedBy}
use Rattle.schema_verdict.specs.Verdict.{OutcomeOf}
use Rattle.seal_commands.specs.declared.reading.TheConstants.{INPUT_LIMIT}
use Rattle.seal_commands.specs.declared.refusal.SealRefusal.{SealRefusal}
use Rattle.seal_commands.specs.Inputs.{IsInputFault}
use Rattle.seal_commands.specs.Unsealing.{UnsealAnswer, as_it_is, bad, good, too_long}
use Rattle.outcomes.specs.declared.refusal.Refusal.TheVariants.{BadSeal, InputTooLong}
use Rattle.outcomes.specs.Outcome.{ComesTo, Outcome}
use Rattle.outcomes.proofs.Same.{IsOneAnswer, same_prints, same_refused}
use Rattle.bec_node.specs.Families.{from_seal}

-- an outcome over seals, as the program tells it
abbrev told_here : OutcomeOf SealRefusal → Outcome
told_here (Ok text) = Ok text
told_here (Err why) = Err (from_seal why)

unseal_told : (key sig : List ℕ) (before after : Option (List ℕ)) (outcome : OutcomeOf SealRefusal) → UnsealAnswer as_it_is key sig before after outcome
    → UnsealAnswer from_seal key sig before after (told_here outcome)
unseal_told key sig before after (Ok text) (good msg whole fits sealed prints) = good msg whole fits sealed prints
unseal_told key sig before after (Err why) (good msg whole fits sealed prints) = absurd prints
unseal_told key sig before after outcome (bad msg whole fits none is) = bad msg whole fits none (ap told_here is)
unseal_told key sig before after outcome (too_long long is) = too_long long (ap told_here is)

pub unseal_done : (key sig : List ℕ) (before after : Option (List ℕ)) (old new : ℕ) (text : Vec ℕ Global) → UnsealAnswer as_it_is key sig before after (Ok text)
    → ComesTo (UnsealAnswer from_seal key sig) before after old new (Ok text)
unseal_done key sig before after old new text is = unseal_told key sig before after (Ok text) is

pub unseal_refused : (key sig : List ℕ) (before after : Option (List ℕ)) (old new : ℕ) (why : SealRefusal) → UnsealAnswer as_it_is key sig before after (Err why) ⊎ IsInputFault old new why
    → ComesTo (UnsealAnswer from_seal key sig) before after old new (Err (from_seal why))
unseal_refused key sig before after old new why (inl is) = inl (unseal_told key sig before after (Err why) is)
unseal_refused key sig before after old new why (inr (inl memory)) = inr (inl (ap from_seal memory))
unseal_refused key sig before after old new why (inr (inr failed)) = inr (inr (ap from_seal failed.0, failed.1))

-- what fits is not too long
fits_not : (limit : ℕ) (msg input : List ℕ) → msg ≡ input → length msg ≤ limit → limit < length input → ⊥
fits_not limit msg input same fits over = let size = ap length same in omega (arith, size, fits, over)

-- an input has one answer to it
pub unsealed_once : (key sig : List ℕ) → IsOneAnswer (UnsealAnswer from_seal key sig)
unsealed_once key sig input after other a b (good msg whole fits sealed p) (good again read few found q) = same_prints a b (codes "good\n") (codes "good\n") refl p q
unsealed_once key sig input after other a b (good msg whole fits sealed p) (bad again read few none f) =
    absurd (none (subst (λ (m : List ℕ). SealedBy key m sig) (whole.0 ∙ sym read.0) sealed))
unsealed_once key sig input after other a b (good msg whole fits sealed p) (too_long long f) = absurd (fits_not INPUT_LIMIT msg input whole.0 fits long.0)
unsealed_once key sig input after other a b (bad msg whole fits none e) (good again read few found q) =
    absurd (none (subst (λ (m : List ℕ). SealedBy key m sig) (read.0 ∙ sym whole.0) found))
unsealed_once key sig input after other a b (bad msg whole fits none e) (bad again read few naught f) = same_refused a b BadSeal BadSeal refl e f
unsealed_once key sig input after other a b (bad msg whole fits none e) (too_long long f) = absurd (fits_not INPUT_LIMIT msg input whole.0 fits long.0)
unsealed_once key sig input after other a b (too_long long e) (good again read few found q) = absurd (fits_not INPUT_LIMIT again input read.0 few long.0)
unsealed_once key sig input after other a b (too_long long e) (bad again read few naught f) = absurd (fits_not INPUT_LIMIT again input read.0 few long.0)
unsealed_once key sig input after other a b (too_long long e) (too_long over f) = same_refused a b InputTooLong InputTooLong refl e f
