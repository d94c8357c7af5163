-- Making a store without updates.
use Rattle.std.proofs.Common.{◌≡◌, ℕ, ◌≤◌, List, [], ◌∷◌, ◌++◌, arith, length, refl, sym, ap, ◌∙◌, IsTrue, Ok, Err, Some, Vec}
use Rattle.std.specs.declared.alloc.Global.{Global}
use Rattle.std.proofs.lemmas.List.{drop_all, take_all}
use Rattle.rand_core.specs.Stream.{Stream}
use Rattle.bec_bytes.specs.Causes.{Rose}
use Rattle.bec_disk.specs.declared.part.Part.TheVariants.{Schema, Updates}
use Rattle.bec_disk.specs.Shelf.{ShelfState}
use Rattle.confluence_test.specs.Taking.{TakesSchema}
use Rattle.key_directory.proofs.Handing.{untouched}
use Rattle.key_directory.proofs.Putting.{told}
use Rattle.key_directory.specs.Parts.{IsHome, IsUntouched, KeepsAllBut, LetsNewGo, part_in, reading}
use Rattle.node_commands.proofs.NewStores.{TakenOrRefused, init_lacked, init_made, init_not_made}
use Rattle.outcomes.specs.Outcome.{Outcome, from_creating}
use Rattle.outcomes.specs.StoreAnswers.{after_bytes, next_bytes}
use Rattle.outcomes.specs.Texts.{database_text}
use Rattle.outcomes.specs.declared.refusal.Refusal.TheVariants as refusals
use Rattle.replica.specs.declared.create_fault.CreateKind.{CreateKind}
use Rattle.replica.specs.declared.create_fault.CreateKind.TheVariants as create_kinds
use Rattle.row_check.specs.Checksum.{is_luhn}
use Rattle.schema.specs.Data.{SchemaData}
use Rattle.schema_verdict.specs.Inputs.{ReadsText}
use Rattle.store_directory.proofs.Readings.{OneSchema}
use Rattle.store_directory.specs.Holding.{OpenData, PutsStore}
use Rattle.store_directory.specs.Making.{IsNewStoreCause, MakesStore}
use Rattle.store_directory.specs.Stores.{IsNoStore}
use Rattle.update_check.specs.Members.{AreMembers}
use Rattle.import_commands.specs.Making.{MakesEmpty, with_text}

-- all of a text is read that is not too long
all_read : (text : List ℕ) → length text ≤ 65536 → ReadsText 65536 (Some text) (Some []) text
all_read text fits = (sym (take_all 65537 text (omega (arith, fits))), ap Some (sym (drop_all 65537 text (omega (arith, fits)))))

module _ (text dir : List ℕ) (stream : Stream) (before after : ShelfState) (old new : ℕ) (home : IsTrue before.tells → IsHome before)
    (none : IsTrue before.tells → IsNoStore (reading (part_in before dir Schema))) where
  -- a shelf that nothing was done to
  still : IsTrue before.tells → IsUntouched (part_in before dir Schema) (part_in before dir Schema)
  still tells = untouched (part_in before dir Schema)

  others_still : IsTrue before.tells → KeepsAllBut (Schema ∷ []) dir before before
  others_still tells other away = refl

  pub lacks_memory : MakesEmpty text dir stream stream before before old old (Err refusals.Memory)
  lacks_memory = record {
    inits = init_lacked dir (with_text text before old stream) (with_text [] before old stream) home still others_still refl none;
    tells = refl;
    later = omega arith;
  }

  module _ (schema : SchemaData) (takes : TakesSchema is_luhn text schema) (node : List ℕ) (stream_new : Stream) (drawn : node ≡ next_bytes stream) (went : stream_new ≡ after_bytes stream) where
    pub not_made : TakenOrRefused → (why : CreateKind) → LetsNewGo Schema Updates (node ++ text) [] before dir after
        → (IsTrue before.tells → IsNewStoreCause is_luhn (reading (part_in before dir Schema)) text why) → old ≤ new → (why ≡ create_kinds.DiskFault → Rose old new)
        → MakesEmpty text dir stream stream_new before after old new (Err (from_creating why))
    not_made either why lets cause later failed = record {
      inits = init_not_made dir (with_text text before old stream) (with_text [] after new stream_new) home before refl still others_still none text schema takes either node why drawn went
          (all_read text takes.declares.0) lets cause failed;
      tells = lets.tells;
      later = later;
    }

    pub made : OneSchema → (opened : ShelfState) (counted : ℕ) (store : OpenData) → length node ≡ 32 → MakesStore is_luhn before dir node text store opened
        → AreMembers store.replica.history.schema.rule store.replica.history.members → PutsStore opened dir store.schema store.replica.log.disk after → old ≤ counted → counted ≤ new
        → (line : Vec ℕ Global) → line.items ≡ database_text schema.rule.database → MakesEmpty text dir stream stream_new before after old new (Ok line)
    made one opened counted store size makes closed puts earlier later line printed = record {
      inits = init_made dir (with_text text before old stream) (with_text [] after new stream_new) home before refl still others_still none text schema takes one opened node store drawn went size
          makes closed puts (all_read text takes.declares.0) line printed;
      tells = puts.tells ∙ makes.tells;
      later = omega (arith, earlier, later);
    }

-- no part is out behind it
pub home_made : (text dir : List ℕ) (stream stream_new : Stream) (before after : ShelfState) (old new : ℕ) (outcome : Outcome) → MakesEmpty text dir stream stream_new before after old new outcome
    → IsTrue after.tells → IsHome after
home_made text dir stream stream_new before after old new outcome empty tells = empty.inits.home (told after.tells before.tells (sym empty.tells) tells)
