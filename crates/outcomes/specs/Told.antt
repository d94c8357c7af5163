-- What is told with a status of its own.
use Rattle.std.specs.Prelude.{◌≡◌, ℕ, ◌==◌, Bool, List, Result, Ok, Err, Option}
use Rattle.outcomes.specs.declared.refusal.Refusal.{Refusal}
use Rattle.schema_verdict.specs.declared.status.TheConstants.{DONE}
use Rattle.outcomes.specs.Outcome.{status_for, Ends}
use Rattle.outcomes.specs.declared.reply.Reply.{Reply}
use Rattle.schema_verdict.specs.Written.{Puts}

-- What a command comes to that has texts for more than one status: a text with its exit status, or a refusal.
abbrev pub Told : Type 0
Told = Result Reply Refusal

abbrev pub told_status : Told → ℕ
told_status (Ok reply) = reply.status
told_status (Err refusal) = status_for refusal

abbrev pub told_done : Told → Bool
told_done told = told_status told == DONE

-- This text is told, with this status.
pub record Tells (told : Told) (text : List ℕ) (status : ℕ) : Type 0 where
  pub reply : Reply
  pub is : told ≡ Ok reply
  pub text_is : reply.text.items ≡ text
  pub status_is : reply.status ≡ status

-- What is told is written whole, with its status, or a front of it where the sink failed; a refusal may lack memory for its lines.
abbrev pub EndsTold : ℕ → ℕ → Option (List ℕ) → Option (List ℕ) → Told → ℕ → Type 0
EndsTold old new held held_new (Ok reply) status = Puts old new held held_new reply.status reply.text.items status
EndsTold old new held held_new (Err refusal) status = Ends old new held held_new (Err refusal) status
