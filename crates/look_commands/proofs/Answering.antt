-- From what the parts of looking answer to what it comes to.
use Rattle.std.proofs.Common.{◌≡◌, ◌⊎◌, arith, inl, inr, ℕ, ◌≤◌, true, List, refl, ap, subst, sym, Option, Some, Ok, Err}
use Rattle.update_model.specs.Rule.{RuleData}
use Rattle.update_stream.specs.declared.reading.Reading.TheVariants.{Whole}
use Rattle.update_stream.specs.Told.{Reads}
use Rattle.row_check.specs.Checksum.{is_luhn}
use Rattle.confluence_test.specs.Taking.{RefusesSchema, TakesSchema}
use Rattle.confluence_test.specs.declared.refusal.SchemaRefusal.{SchemaRefusal}
use Rattle.confluence_test.specs.declared.refusal.SchemaRefusal.TheVariants as taking
use Rattle.schema.specs.Data.{SchemaData}
use Rattle.outcomes.specs.declared.refusal.Refusal.{Refusal}
use Rattle.outcomes.specs.declared.refusal.Refusal.TheVariants.{Memory}
use Rattle.node_commands.specs.Bundle.{HoldsText}
use Rattle.node_commands.specs.Heads.{StopsAt}
use Rattle.outcomes.specs.Outcome.{ComesTo, IsFault, Outcome, from_taking}
use Rattle.outcomes.proofs.Saying.{rose_later}
use Rattle.look_commands.specs.Bundles.{BundleHeld, BundleLacks, BundleRefused, BundleShown, HoldsFirst, held, refused, refuses, shows, stopped}

pub refused_text : (before after : Option (List ℕ)) (old new : ℕ) (declared : List ℕ) (why : SchemaRefusal) → HoldsText before after declared → RefusesSchema is_luhn declared why ⊎ (why ≡ taking.Memory)
    → BundleRefused before after (from_taking why) ⊎ IsFault old new (from_taking why)
refused_text before after old new declared why holds (inl is) = inl (refused declared why holds is refl)
refused_text before after old new declared why holds (inr memory) = inr (inl (ap from_taking memory))

pub refused_record : (before mid after : Option (List ℕ)) (old between new : ℕ) (declared : List ℕ) (schema : SchemaData) (given : Option RuleData) (r : Refusal) → HoldsText before mid declared
    → TakesSchema is_luhn declared schema → given ≡ Some schema.rule → old ≤ between → StopsAt given mid after between new r → BundleRefused before after r ⊎ IsFault old new r
refused_record before mid after old between new declared schema given r holds takes is later stops = by (subst (λ (g : Option RuleData). StopsAt g mid after between new r) is stops)
  where
    by : StopsAt (Some schema.rule) mid after between new r → BundleRefused before after r ⊎ IsFault old new r
    by (inl s) = inl (stopped declared mid schema s.0 s.1.0 holds takes s.1.1 s.1.2)
    by (inr (inl memory)) = inr (inl memory)
    by (inr (inr failed)) = inr (inr (failed.0, rose_later old between new later failed.1))

pub held_whole : (before mid after : Option (List ℕ)) (declared : List ℕ) (schema : SchemaData) (given : Option RuleData) (members : List (List ℕ)) → HoldsText before mid declared
    → TakesSchema is_luhn declared schema → given ≡ Some schema.rule → Reads given mid after (Whole members) → BundleHeld before after schema members
held_whole before mid after declared schema given members holds takes is reads = held declared mid holds takes (subst (λ (g : Option RuleData). Reads g mid after (Whole members)) is reads)

module _ (Answers : SchemaData → List (List ℕ) → Outcome → Type 0) (before after : Option (List ℕ)) (old new : ℕ) where
  pub shown_refused : (r : Refusal) → BundleRefused before after r ⊎ IsFault old new r → ComesTo (BundleShown Answers) before after old new (Err r)
  shown_refused r (inl is) = inl (refuses r is refl)
  shown_refused r (inr fault) = inr fault

  -- an answer is one of the things that may come
  comes : (outcome : Outcome) → BundleShown Answers before after outcome → ComesTo (BundleShown Answers) before after old new outcome
  comes (Ok text) is = is
  comes (Err refusal) is = inl is

  pub shown_done : (schema : SchemaData) (members : List (List ℕ)) (outcome : Outcome) → BundleHeld before after schema members
      → Answers schema members outcome ⊎ (outcome ≡ Err Memory) → ComesTo (BundleShown Answers) before after old new outcome
  shown_done schema members outcome holds (inl is) = comes outcome (shows schema members holds is)
  shown_done schema members outcome holds (inr memory) = subst (λ (o : Outcome). ComesTo (BundleShown Answers) before after old new o) (sym memory) (inr (inl refl))

-- of two bundles, the first one is refused, whose source never fails
pub first_refused : (before after left : Option (List ℕ)) (old new : ℕ) (bundle : List ℕ) (r : Refusal) → HoldsFirst before after bundle → BundleRefused (Some bundle) left r ⊎ IsFault 0 0 r
    → BundleLacks true before after r ⊎ IsFault old new r
first_refused before after left old new bundle r holds (inl is) = inl (inr (bundle, left, holds, is))
first_refused before after left old new bundle r holds (inr (inl memory)) = inr (inl memory)
first_refused before after left old new bundle r holds (inr (inr failed)) = absurd (omega (arith, failed.1))
