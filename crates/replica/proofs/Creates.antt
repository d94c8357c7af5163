-- Creating a store.
use Rattle.std.proofs.Common.{◌≡◌, ◌⊎◌, inl, inr, ⊎_elim, ℕ, List, [], refl, subst, IsTrue, arith}
use Rattle.bec_bytes.specs.Framed.{stream_of}
use Rattle.bec_disk.specs.Disk.{DiskState, IsSameDisk, IsSettled}
use Rattle.bec_disk.specs.Gated.{IsOldOrNew, gated_of}
use Rattle.bec_disk.proofs.Images.{settled_image}
use Rattle.bec_disk.proofs.Moments.{same_disk, stays}
use Rattle.update_model.specs.Rule.{RuleData}
use Rattle.update_check.specs.Members.{AreMembers}
use Rattle.update_log.specs.Logset.{IsLogset}
use Rattle.schema.specs.Data.{Meaning}
use Rattle.confluence_test.specs.Taking.{RefusesSchema}
use Rattle.confluence_test.specs.declared.refusal.SchemaRefusal.{SchemaRefusal}
use Rattle.confluence_test.specs.declared.refusal.SchemaRefusal.TheVariants.{Memory, NotConfluent, Schema}
use Rattle.bec_disk.specs.declared.gated.Gated.TheVariants.{Absent}
use Rattle.replica.specs.Faults.{refusal_kind}
use Rattle.replica.specs.Opening.{Creating, IsCreateCause, IsTextCause}
use Rattle.replica.specs.declared.create_fault.CreateKind.{CreateKind}
use Rattle.replica.specs.declared.create_fault.CreateKind.TheVariants as creating

-- the part Schema is left alone
pub creating_untouched : (schema schema_new updates updates_new : DiskState) (payload : List ℕ) → (IsTrue schema.tells → IsSettled schema) → schema_new ≡ schema → IsSameDisk updates updates_new
    → Creating schema updates payload schema_new updates_new
creating_untouched schema schema_new updates updates_new payload settled same disk = record {
  schema_moments = stays schema schema_new (IsOldOrNew schema.seen payload) same (λ tells. settled_image schema (IsOldOrNew schema.seen payload) (settled tells) (inr (inr refl)));
  updates_disk = disk;
  order = inl same;
}

-- and so is the part Updates
pub creating_nothing : (schema schema_new updates : DiskState) (payload : List ℕ) → (IsTrue schema.tells → IsSettled schema) → schema_new ≡ schema → Creating schema updates payload schema_new updates
creating_nothing schema schema_new updates payload settled same = creating_untouched schema schema_new updates updates payload settled same (same_disk updates updates refl)

no_members : (rule : RuleData) → AreMembers rule []
no_members rule = record { checked = λ k d few. absurd (omega arith); closed = tt; within = refl }

-- no bytes are the records of no members
pub empty_logset : (rule : RuleData) (bytes : List ℕ) (members : List (List ℕ))
    → ((rule : RuleData) (bytes : List ℕ) (members others : List (List ℕ)) → IsLogset rule bytes members → IsLogset rule bytes others → members ≡ others)
    → ((rule : RuleData) (members : List (List ℕ)) → AreMembers rule members → IsLogset rule (stream_of members) members) → bytes ≡ [] → IsLogset rule bytes members → members ≡ []
unfolding stream_of
empty_logset rule bytes members one whole none is =
    one rule [] members [] (subst (λ (l : List ℕ). IsLogset rule l members) none is) (whole rule [] (no_members rule))

memory_only : (ask : Meaning) (text : List ℕ) (refusal : SchemaRefusal) → (refusal ≡ Memory → ⊥) → (RefusesSchema ask text refusal ⊎ (refusal ≡ Memory)) → RefusesSchema ask text refusal
memory_only ask text refusal other why = ⊎_elim (λ refused. refused) (λ memory. absurd (other memory)) why

-- a text that is refused is why
pub text_refused : (ask : Meaning) (text : List ℕ) (refusal : SchemaRefusal) → (RefusesSchema ask text refusal ⊎ (refusal ≡ Memory)) → IsTextCause ask text (refusal_kind refusal)
text_refused ask text (Schema fault) why = memory_only ask text (Schema fault) (λ e. cc) why
text_refused ask text (NotConfluent schema which example) why = memory_only ask text (NotConfluent schema which example) (λ e. cc) why
text_refused ask text Memory why = tt

-- where the part is absent, the text is why
pub text_cause : (ask : Meaning) (part : DiskState) (text : List ℕ) (why : CreateKind) → (IsTrue part.tells → gated_of part.seen ≡ Absent) → IsTextCause ask text why → IsCreateCause ask part text why
text_cause ask part text creating.NotEmpty absent cause = absurd cause
text_cause ask part text (creating.BadSchema fault) absent cause = (absent, cause)
text_cause ask part text (creating.NotConfluent declared which example) absent cause = (absent, cause)
text_cause ask part text creating.DiskFault absent cause = absurd cause
text_cause ask part text creating.Memory absent cause = tt
