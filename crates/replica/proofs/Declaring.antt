-- What a payload declares.
use Rattle.std.proofs.Common.{◌≡◌, ◌⊎◌, ℕ, List, ◌++◌, length, take, drop, sym, ap, subst, ◌∙◌, ⊎_elim, IsTrue}
use Rattle.std.proofs.lemmas.List.{drop_at, take-append-drop}
use Rattle.bec_disk.specs.Disk.{DiskState}
use Rattle.bec_disk.specs.declared.gated.Gated.TheVariants.{Whole}
use Rattle.schema_text.specs.Schemas.{Declares}
use Rattle.schema.specs.Data.{Meaning, SchemaData}
use Rattle.update_log.specs.Log.{KeepsLogset}
use Rattle.update_log.specs.Logset.{IsLogset}
use Rattle.replica.specs.Opening.{KeepsStore}
use Rattle.confluence_test.specs.Taking.{RefusesSchema, TakesSchema}
use Rattle.confluence_test.specs.declared.refusal.SchemaRefusal.{SchemaRefusal}
use Rattle.confluence_test.specs.declared.refusal.SchemaRefusal.TheVariants.{Memory}
use Rattle.replica.specs.Payload.{DeclaresBoth, DeclaresStore}

-- the text of a schema that was taken is the text
pub text_of_taken : (ask : Meaning) (text : List ℕ) (schema : SchemaData) → TakesSchema ask text schema → schema.text ≡ text
text_of_taken ask text schema taken = ap (λ (s : SchemaData). s.text) taken.declares.1.3

-- a schema that stays is still taken
pub still_taken : (ask : Meaning) (old new : SchemaData) → new ≡ old → TakesSchema ask old.text old → TakesSchema ask new.text new
still_taken ask old new same taken = subst (λ (s : SchemaData). TakesSchema ask s.text s) (sym same) taken

pub taken_by_text : (ask : Meaning) (text : List ℕ) (schema : SchemaData) → TakesSchema ask text schema → TakesSchema ask schema.text schema
taken_by_text ask text schema taken = subst (λ (l : List ℕ). TakesSchema ask l schema) (sym (text_of_taken ask text schema taken)) taken

-- the first 32 bytes are the node's
pub declares_both : (ask : Meaning) (payload node text : List ℕ) (schema : SchemaData) → node ≡ take 32 payload → text ≡ drop 32 payload → length node ≡ 32 → TakesSchema ask text schema → DeclaresBoth ask payload node schema
declares_both ask payload node text schema is behind size taken = record {
  payload_is = sym (take-append-drop 32 payload) ∙ ap (λ (l : List ℕ). l ++ drop 32 payload) (sym is) ∙ ap (λ (l : List ℕ). node ++ l) (sym behind) ∙ ap (λ (l : List ℕ). node ++ l) (sym (text_of_taken ask text schema taken));
  size = size;
  taken = taken_by_text ask text schema taken;
}

-- a refused text declares none
pub declares_none : (ask : Meaning) (payload node text : List ℕ) (schema : SchemaData) (refusal : SchemaRefusal)
    → ((ask : Meaning) (text : List ℕ) (schema : SchemaData) (refusal : SchemaRefusal) → TakesSchema ask text schema → RefusesSchema ask text refusal → ⊥)
    → text ≡ drop 32 payload → (RefusesSchema ask text refusal ⊎ (refusal ≡ Memory)) → (refusal ≡ Memory → ⊥) → DeclaresBoth ask payload node schema → ⊥
declares_none ask payload node text schema refusal law behind why other is =
    let text_is : text ≡ schema.text = behind ∙ ap (drop 32) is.payload_is ∙ drop_at node schema.text 32 is.size in
    ⊎_elim (λ refused. law ask text schema refusal (subst (λ (l : List ℕ). TakesSchema ask l schema) (sym text_is) is.taken) refused) other why

-- ---- the part Schema

-- equal payloads are of parts that are whole
whole_payload : (a b : List ℕ) → Whole a ≡ Whole b → a ≡ b
whole_payload a b same = cc

-- one part declares one schema
same_store : (ask : Meaning) (part node node2 : List ℕ) (schema schema2 : SchemaData) → ((relation : Meaning) (text : List ℕ) (schema other : SchemaData) → Declares relation text schema → Declares relation text other → schema ≡ other)
    → DeclaresStore ask part node schema → DeclaresStore ask part node2 schema2 → schema ≡ schema2
same_store ask part node node2 schema schema2 law a b =
    let both : node ++ schema.text ≡ node2 ++ schema2.text = whole_payload (node ++ schema.text) (node2 ++ schema2.text) (sym a.whole ∙ b.whole) in
    let texts : schema.text ≡ schema2.text = sym (drop_at node schema.text 32 a.size) ∙ ap (drop 32) both ∙ drop_at node2 schema2.text 32 b.size in
    law ask schema.text schema schema2 a.taken.declares (subst (λ (l : List ℕ). Declares ask l schema2) (sym texts) b.taken.declares)

-- a log that keeps its list under the schema keeps the store
pub keeps_store : (ask : Meaning) (part old new : DiskState) (node : List ℕ) (schema : SchemaData) → ((relation : Meaning) (text : List ℕ) (schema other : SchemaData) → Declares relation text schema → Declares relation text other → schema ≡ other)
    → (IsTrue part.tells → DeclaresStore ask part.seen node schema) → KeepsLogset schema.rule old new → KeepsStore ask part old new
keeps_store ask part old new node schema law declared keeps = record {
  disk = keeps.disk;
  any_moment = λ tells node2 schema2 members is logset.
      keeps.any_moment members (λ told. subst (λ (s : SchemaData). IsLogset s.rule old.seen members) (same_store ask part.seen node2 node schema2 schema law is (declared tells)) (logset told));
}
