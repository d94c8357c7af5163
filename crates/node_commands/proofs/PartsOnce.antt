-- What the parts of a directory read as has one answer to each command that only reads its store.
use Rattle.std.proofs.Common.{ℕ, Bool, List, refl, sym, ◌∙◌, ap}
use Rattle.node_commands.specs.Bundle.{dump_text}
use Rattle.outcomes.specs.StoreAnswers.{Printing, ReadsStore}
use Rattle.node_commands.specs.Shows.{ShowsHeads, ShowsNotes, ShowsRecords, ShowsTables}
use Rattle.outcomes.specs.Texts.{printed}
use Rattle.node_commands.proofs.Answer.{heads_once}
use Rattle.node_commands.specs.Asking.{QueryAnswer}
use Rattle.node_commands.specs.Notes.{note_lines}
use Rattle.node_commands.proofs.Asking.{QueryLaws, query_once}
use Rattle.node_commands.proofs.Notes.{noted_once}
use Rattle.node_commands.proofs.Tables.{TableLaws, tables_once}
use Rattle.outcomes.proofs.StoreOnce.{IsOneOfParts, IsShownOnce, StoreLaws, printed_once, read_answered}

heads_shown : IsShownOnce ShowsHeads
heads_shown store text line a b = a.2 ∙ ap printed (heads_once store.members store.members a.0 b.0 refl a.1 b.1) ∙ sym b.2

tables_shown : TableLaws → (json : Bool) → IsShownOnce (ShowsTables json)
tables_shown laws json store text line a b =
    let one = tables_once laws store.schema store.members a.0 b.0 a.1.0 b.1.0 b.1.1.taken.closed a.1.1.are b.1.1.are in
    a.1.2 ∙ (λ i. dump_text json store.schema (one.0 i) (one.1 i)) ∙ sym b.1.2

records_shown : (updates_only : Bool) → IsShownOnce (ShowsRecords updates_only)
records_shown updates_only store text line a b = a ∙ sym b

notes_shown : IsShownOnce ShowsNotes
notes_shown store text line a b = a.2 ∙ ap note_lines (noted_once store.members a.0 b.0 a.1 b.1) ∙ sym b.2

-- so it is of each command that only reads a store
pub record OneOfParts : Type 0 where
  pub heads : IsOneOfParts (ReadsStore (Printing ShowsHeads))
  pub dump : (json : Bool) → IsOneOfParts (ReadsStore (Printing (ShowsTables json)))
  pub export : (updates_only : Bool) → IsOneOfParts (ReadsStore (Printing (ShowsRecords updates_only)))
  pub notes : IsOneOfParts (ReadsStore (Printing ShowsNotes))
  pub query : (text : List ℕ) (json : Bool) → IsOneOfParts (ReadsStore (QueryAnswer text json))

pub answered_of_parts : StoreLaws → TableLaws → QueryLaws → OneOfParts
answered_of_parts stores tables queries = record {
  heads = read_answered stores (Printing ShowsHeads) (printed_once ShowsHeads heads_shown);
  dump = λ json. read_answered stores (Printing (ShowsTables json)) (printed_once (ShowsTables json) (tables_shown tables json));
  export = λ updates_only. read_answered stores (Printing (ShowsRecords updates_only)) (printed_once (ShowsRecords updates_only) (records_shown updates_only));
  notes = read_answered stores (Printing ShowsNotes) (printed_once ShowsNotes notes_shown);
  query = λ text json. read_answered stores (QueryAnswer text json) (query_once queries text json);
}
