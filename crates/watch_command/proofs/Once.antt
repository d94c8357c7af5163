-- What refuses a watch before anything is told is what it stops for.
use Rattle.std.proofs.Common.{◌≡◌, ◌⊎◌, inl, inr, ℕ, List, sym, ap, subst, ◌∙◌, IsTrue, Option, Some}
use Rattle.row_check.specs.Checksum.{is_luhn}
use Rattle.bec_disk.specs.Shelf.{ShelfState}
use Rattle.schema.specs.Data.{SchemaData}
use Rattle.query.specs.Queries.{FirstFault, QueryData, Reads}
use Rattle.query.specs.declared.fault.QueryKind.{QueryKind}
use Rattle.live_view.specs.Named.{IsNamed}
use Rattle.store_directory.specs.Stores.{StoreData}
use Rattle.outcomes.specs.Comes.{readings}
use Rattle.outcomes.specs.StoreAnswers.{Readings}
use Rattle.outcomes.specs.declared.refusal.Refusal.{Refusal}
use Rattle.outcomes.specs.declared.refusal.Refusal.TheVariants.{Query}
use Rattle.outcomes.proofs.StoreOnce.{StoreLaws, read_or_refused, refused_once}
use Rattle.watch_command.specs.Runs.{IsOpeningFault, OpenAnswer, RefusesText, RefusesWatch, WatchAnswer, by_store, by_text, no_query, not_named, refused, watched, with_store, without_store}
use Rattle.watch_command.specs.Watching.{WatchData}
use Rattle.watch_command.specs.declared.stop.Stop.{Stop}
use Rattle.watch_command.specs.declared.stop.Stop.TheVariants.{Refused}

-- what is known of a text: it is one query, or it has one first fault, and not both
pub record TextLaws : Type 0 where
  pub one_query : (schema : SchemaData) (text : List ℕ) (query other : QueryData) → Reads schema text query → Reads schema text other → query ≡ other
  pub one_fault : (schema : SchemaData) (text : List ℕ) (kind other : QueryKind) (spot place : _) → FirstFault schema text kind spot → FirstFault schema text other place → (kind ≡ other) × (spot ≡ place)
  pub no_fault : (schema : SchemaData) (text : List ℕ) (query : QueryData) (kind : QueryKind) (spot : _) → Reads schema text query → FirstFault schema text kind spot → ⊥

module _ (texts : TextLaws) (schema : SchemaData) (text : List ℕ) where
  -- a text is refused in one way
  text_once : (r s : Refusal) → RefusesText schema text r → RefusesText schema text s → r ≡ s
  text_once r s (no_query fault first is) (no_query other another so) =
      let same = texts.one_fault schema text fault.kind other.kind _ _ first another in
      is ∙ (λ i. Query (record { line = (same.1 i).line; column = (same.1 i).column; kind = same.0 i })) ∙ sym so
  text_once r s (no_query fault first is) (not_named query reads other so) = absurd (texts.no_fault schema text query fault.kind _ reads first)
  text_once r s (not_named query reads other is) (no_query fault first so) = absurd (texts.no_fault schema text query fault.kind _ reads first)
  text_once r s (not_named query reads other is) (not_named again read another so) = is ∙ sym so

  -- and one that is named is not refused
  named_or_refused : (query : QueryData) (refusal : Refusal) → Reads schema text query → IsNamed query → RefusesText schema text refusal → ⊥
  named_or_refused query refusal reads named (no_query fault first is) = texts.no_fault schema text query fault.kind _ reads first
  named_or_refused query refusal reads named (not_named other read not is) = not (subst IsNamed (texts.one_query schema text query other reads read) named)

module _ (stores : StoreLaws) (texts : TextLaws) (Unused : Type 0) (watch : WatchData) (before : ShelfState) (dir : List ℕ) (left left_new : Option (List ℕ)) (added : List (List ℕ)) (text : List ℕ) (stop : Option Stop) where
  open_stop : (store : StoreData) (refusal : Refusal) → RefusesText store.schema watch.text refusal → OpenAnswer Unused watch store left left_new added text stop → stop ≡ Some (Refused refusal)
  open_stop store refusal refuses (refused other refuses_too is) = is.is ∙ ap (λ (r : Refusal). Some (Refused r)) (text_once texts store.schema watch.text other refusal refuses_too refuses)
  open_stop store refusal refuses (watched watches) = absurd (named_or_refused texts store.schema watch.text watches.view.query refusal watches.opens.reads watches.opens.named refuses)

  answer_stop : (parts : Readings) (refusal : Refusal) → RefusesWatch watch.text parts refusal → WatchAnswer Unused watch parts left left_new added text stop → stop ≡ Some (Refused refusal)
  answer_stop parts refusal (by_store refuses) (without_store other refuses_too is) = is.is ∙ ap (λ (r : Refusal). Some (Refused r)) (refused_once stores parts other refusal refuses_too refuses)
  answer_stop parts refusal (by_store refuses) (with_store store has answer) = absurd (read_or_refused stores parts store refusal has refuses)
  answer_stop parts refusal (by_text store has refuses) (without_store other refuses_too is) = absurd (read_or_refused stores parts store other has refuses_too)
  answer_stop parts refusal (by_text store has refuses) (with_store other had answer) =
      let same : store ≡ other = stores.one_store is_luhn parts.schema parts.updates store other has had in
      open_stop other refusal (subst (λ (s : StoreData). RefusesText s.schema watch.text refusal) same refuses) answer

  pub one_stop : (refusal : Refusal) → IsTrue before.tells → RefusesWatch watch.text (readings before dir) refusal
      → (IsTrue before.tells → WatchAnswer Unused watch (readings before dir) left left_new added text stop) ⊎ IsOpeningFault added text stop
      → (stop ≡ Some (Refused refusal)) ⊎ IsOpeningFault added text stop
  one_stop refusal tells refuses (inl answers) = inl (answer_stop (readings before dir) refusal refuses (answers tells))
  one_stop refusal tells refuses (inr fault) = inr fault
