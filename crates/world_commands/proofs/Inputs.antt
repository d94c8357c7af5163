-- What an input is by what was read of it.
use Rattle.std.proofs.Common.{◌≡◌, ◌∙◌, ◌⊎◌, inl, inr, ℕ, ◌<◌, ◌≤◌, Bool, true, false, List, length, refl, subst, length-take, take, Option, None, Some, Ok, Err, Vec, arith, nat_lt}
use Rattle.std.specs.declared.alloc.Global.{Global}
use Rattle.std.proofs.lemmas.List.{take_all}
use Rattle.std.proofs.lemmas.Bool.Decides.{nat_tests}
use Rattle.bec_bytes.specs.Causes.{Rose}
use Rattle.bec_bytes.specs.declared.read_error.ReadError.{ReadError}
use Rattle.bec_bytes.specs.declared.read_error.ReadError.TheVariants.{Failed, Memory}
use Rattle.row_check.specs.Checksum.{is_luhn}
use Rattle.schema_verdict.specs.Inputs.{IsWholeText, ReadsText}
use Rattle.world_commands.specs.Answers.{IsFault, IsRefusal, IsTaken, RefusesScript, Reports, WorldAnswer, at_fault, from_reading, not_confluent, refused, reported}
use Rattle.world_commands.specs.declared.refusal.WorldRefusal.{WorldRefusal}
use Rattle.world_script.specs.Scripts.{IsScript}
use Rattle.world_script.specs.declared.fault.ScriptFault.TheVariants.{AtLine, Schema}
use Rattle.world_script.specs.declared.script.Script.{Script}

-- where no more bytes were read than a script may have, they are all
all_read : (input : List ℕ) → length (take 16777217 input) ≤ 16777216 → take 16777217 input ≡ input
all_read input small = by (nat_lt 16777216 (length input)) refl
  where
    by : (b : Bool) → nat_lt 16777216 (length input) ≡ b → take 16777217 input ≡ input
    by true e = let many : 16777216 < length input = grind (arith, nat_tests) in let taken : length (take 16777217 input) ≡ 16777217 = simp length-take (omega arith) in absurd (omega (arith, taken, small))
    by false e = let few : length input ≤ 16777216 = grind (arith, nat_tests) in take_all 16777217 input (omega (arith, few))

-- what was read is the whole input
whole : (P : List ℕ → Type 0) (before after : Option (List ℕ)) (read : List ℕ) → ReadsText 16777216 before after read → length read ≤ 16777216 → P read
    → (input : List ℕ) × IsWholeText 16777216 before after input × P input
whole P None after read reads short holds = (read, tt, holds)
whole P (Some input) after read reads short holds =
    let small : length (take 16777217 input) ≤ 16777216 = subst (λ (t : List ℕ). length t ≤ 16777216) reads.0 short in
    (input, (refl, reads.1), subst P (reads.0 ∙ all_read input small) holds)

-- what was read is a front of an input that is too long
over : (before after : Option (List ℕ)) (read : List ℕ) → ReadsText 16777216 before after read → 16777216 < length read
    → (input : List ℕ) × IsWholeText 16777216 before after input × (16777216 < length input)
over None after read reads long = (read, tt, long)
over (Some input) after read reads long =
    let many : 16777216 < length (take 16777217 input) = subst (λ (t : List ℕ). 16777216 < length t) reads.0 long in
    let front : length (take 16777217 input) ≤ length input = simp length-take (omega arith) in
    (input, (refl, reads.1), omega (arith, many, front))

-- a text that is a script, whose schema is taken, has its report
pub told : (audit : Bool) (before after : Option (List ℕ)) (read : List ℕ) (script : Script) (report : Vec ℕ Global) → ReadsText 16777216 before after read → IsScript is_luhn read script
    → IsTaken is_luhn script → Reports is_luhn audit script report.items → WorldAnswer audit before after (Ok report)
told audit before after read script report reads is taken reports =
    let all = whole (λ (text : List ℕ). IsScript is_luhn text script) before after read reads is.short is in
    reported all.0 report.items script all.1 all.2 taken reports refl

-- what is refused of the whole input, where no more was read than a script may have
of_whole : (audit : Bool) (before after : Option (List ℕ)) (read : List ℕ) (why : WorldRefusal) → ReadsText 16777216 before after read → length read ≤ 16777216
    → RefusesScript is_luhn read why → WorldAnswer audit before after (Err why)
of_whole audit before after read why reads short is =
    let all = whole (λ (text : List ℕ). RefusesScript is_luhn text why) before after read reads short is in
    refused all.0 why all.1 all.2 refl

-- a text that is refused
pub refused_so : (audit : Bool) (before after : Option (List ℕ)) (read : List ℕ) (why : WorldRefusal) → ReadsText 16777216 before after read → RefusesScript is_luhn read why
    → WorldAnswer audit before after (Err why)
refused_so audit before after read why reads (at_fault (Schema fault) first e) = of_whole audit before after read why reads first.0 (at_fault (Schema fault) first e)
refused_so audit before after read why reads (at_fault (AtLine number) (inr fault) e) = of_whole audit before after read why reads fault.0 (at_fault (AtLine number) (inr fault) e)
refused_so audit before after read why reads (at_fault (AtLine number) (inl long) e) =
    let all = over before after read reads long.0 in
    refused all.0 why all.1 (at_fault (AtLine number) (inl (all.2, long.1)) e) refl
refused_so audit before after read why reads (not_confluent script schema which example is declares refuted e) =
    of_whole audit before after read why reads is.short (not_confluent script schema which example is declares refuted e)

-- where no report was made of what was read
pub not_told : (audit : Bool) (before after : Option (List ℕ)) (old new : ℕ) (read : List ℕ) (why : WorldRefusal) → ReadsText 16777216 before after read
    → IsRefusal (RefusesScript is_luhn read) why → WorldAnswer audit before after (Err why) ⊎ IsFault old new why
not_told audit before after old new read why reads (inl is) = inl (refused_so audit before after read why reads is)
not_told audit before after old new read why reads (inr memory) = inr (inl memory)

-- where the input was not read
pub unread : (audit : Bool) (before after : Option (List ℕ)) (old new : ℕ) (why : ReadError) → (why ≡ Failed → Rose old new)
    → WorldAnswer audit before after (Err (from_reading why)) ⊎ IsFault old new (from_reading why)
unread audit before after old new Failed rose = inr (inr (refl, rose refl))
unread audit before after old new Memory rose = inr (inl refl)
