-- What comes of the steps of reading a bundle.
use Rattle.std.proofs.Common.{◌≡◌, ◌⊎◌, inl, inr, ℕ, ◌≤◌, List, refl, ap, subst, sym, Option, Some}
use Rattle.update_model.specs.Rule.{RuleData}
use Rattle.update_stream.specs.declared.reading.Reading.TheVariants.{Whole}
use Rattle.update_stream.specs.Told.{Reads}
use Rattle.row_check.specs.Checksum.{is_luhn}
use Rattle.confluence_test.specs.Taking.{RefusesSchema, TakesSchema}
use Rattle.confluence_test.specs.declared.refusal.SchemaRefusal.{SchemaRefusal}
use Rattle.confluence_test.specs.declared.refusal.SchemaRefusal.TheVariants as taking
use Rattle.schema.specs.Data.{SchemaData}
use Rattle.outcomes.specs.declared.refusal.Refusal.{Refusal}
use Rattle.node_commands.specs.Bundle.{HoldsText}
use Rattle.node_commands.specs.Heads.{StopsAt}
use Rattle.outcomes.specs.Outcome.{IsFault, from_taking}
use Rattle.outcomes.proofs.Saying.{rose_later}
use Rattle.bundles.specs.Bundles.{BundleHeld, BundleRefused, held, refused, stopped}

pub refused_text : (before after : Option (List ℕ)) (old new : ℕ) (declared : List ℕ) (why : SchemaRefusal) → HoldsText before after declared → RefusesSchema is_luhn declared why ⊎ (why ≡ taking.Memory)
    → BundleRefused before after (from_taking why) ⊎ IsFault old new (from_taking why)
refused_text before after old new declared why holds (inl is) = inl (refused declared why holds is refl)
refused_text before after old new declared why holds (inr memory) = inr (inl (ap from_taking memory))

pub refused_record : (before mid after : Option (List ℕ)) (old between new : ℕ) (declared : List ℕ) (schema : SchemaData) (given : Option RuleData) (r : Refusal) → HoldsText before mid declared
    → TakesSchema is_luhn declared schema → given ≡ Some schema.rule → old ≤ between → StopsAt given mid after between new r → BundleRefused before after r ⊎ IsFault old new r
refused_record before mid after old between new declared schema given r holds takes is later stops = by (subst (λ (g : Option RuleData). StopsAt g mid after between new r) is stops)
  where
    by : StopsAt (Some schema.rule) mid after between new r → BundleRefused before after r ⊎ IsFault old new r
    by (inl s) = inl (stopped declared mid schema s.0 s.1.0 holds takes s.1.1 s.1.2)
    by (inr (inl memory)) = inr (inl memory)
    by (inr (inr failed)) = inr (inr (failed.0, rose_later old between new later failed.1))

pub held_whole : (before mid after : Option (List ℕ)) (declared : List ℕ) (schema : SchemaData) (given : Option RuleData) (members : List (List ℕ)) → HoldsText before mid declared
    → TakesSchema is_luhn declared schema → given ≡ Some schema.rule → Reads given mid after (Whole members) → BundleHeld before after schema members
held_whole before mid after declared schema given members holds takes is reads = held declared mid holds takes (subst (λ (g : Option RuleData). Reads g mid after (Whole members)) is reads)

-- a schema that was taken has its text
pub taken_again : (text : List ℕ) (schema : SchemaData) → TakesSchema is_luhn text schema → TakesSchema is_luhn schema.text schema
taken_again text schema takes = subst (λ (t : List ℕ). TakesSchema is_luhn t schema) (sym (ap (λ (s : SchemaData). s.text) takes.declares.1.3)) takes
