-- Parting a text one byte after another.
use Rattle.std.proofs.Common.{◌≡◌, ◌≢◌, ◌==◌, ℕ, ◌+◌, List, ◌++◌, length, Option, Some, None, Bool, true, false, cond, refl, sym, ap, subst, ◌∙◌, arith}
use Rattle.update_model.specs.declared.op.Op.{Op}
use Rattle.schema.specs.Data.{SchemaData}
use Rattle.std.specs.Prelude.{MatchOption}
use Rattle.std.specs.List.{list_any}
use Rattle.std.proofs.lemmas.Bool.Decides.{nat_tests}
use Rattle.txn_text.specs.Transactions.{Reads}
use Rattle.world_script.specs.declared.operations.Quoting.{Quoting}
use Rattle.world_script.specs.declared.operations.Quoting.TheVariants.{Outside}
use Rattle.world_script.specs.Operations.{AreOperations, IsParted, if_so_many, is_cr, part_count, parted}

-- what is left to part of a text, after these lines
abbrev pub PartsOn : List ℕ → List ℕ → ℕ → Quoting → List ℕ → Type 0
PartsOn text lines count quoting rest =
    (parted Outside text ≡ lines ++ parted quoting rest) × (part_count Outside text + 1 ≡ count + part_count quoting rest)

-- ---- whole texts

-- a text is one list of operations
abbrev pub OneTransaction : Type 0
OneTransaction = (schema : SchemaData) (text : List ℕ) (ops other : List Op) → Reads schema text ops → Reads schema text other → ops ≡ other

pub operations_one : OneTransaction → (schema : SchemaData) (text : List ℕ) (ops other : List Op) → AreOperations schema text ops → AreOperations schema text other → ops ≡ other
operations_one one schema text ops other h k = one schema (parted Outside text) ops other h.reads k.reads

counted_by : OneTransaction → (schema : SchemaData) (text : List ℕ) (ops : List Op) (same : Bool) → (length ops == part_count Outside text + 1) ≡ same
    → list_any is_cr text ≡ false → Reads schema (parted Outside text) ops
    → MatchOption (cond same (Some ops) None) ((other : List Op) → AreOperations schema text other → ⊥) (λ found. AreOperations schema text found)
counted_by one schema text ops true is no_cr reads = record { no_cr = no_cr; reads = reads; each = grind (arith, nat_tests, is) }
counted_by one schema text ops false is no_cr reads = λ other h.
    let same = one schema (parted Outside text) ops other reads h.reads in
    let each = ap length same ∙ h.each in
    let differ : length ops ≢ part_count Outside text + 1 = grind (arith, nat_tests, is) in
    differ each

pub counted : OneTransaction → (schema : SchemaData) (text lines : List ℕ) (count : ℕ) (ops : List Op) (found : Option (List Op)) → list_any is_cr text ≡ false → IsParted text lines count
    → Reads schema lines ops → found ≡ if_so_many ops count
    → MatchOption found ((other : List Op) → AreOperations schema text other → ⊥) (λ found. AreOperations schema text found)
counted one schema text lines count ops found no_cr p reads is =
    let M : Option (List Op) → Type 0 = λ o. MatchOption o ((other : List Op) → AreOperations schema text other → ⊥) (λ found. AreOperations schema text found) in
    let here = counted_by one schema text ops (length ops == part_count Outside text + 1) refl no_cr (subst (λ (t : List ℕ). Reads schema t ops) p.lines reads) in
    subst M (sym (is ∙ ap (if_so_many ops) p.count)) here
