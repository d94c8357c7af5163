use Rattle.update_codec.proofs.Places.{database_stands, author_stands, preds_stand, ops_stand, note_stands, signature_stands, update_stands}
use Rattle.update_codec.proofs.laws.fields_of_spelling.Goals as goal

pub returns-clause-database : goal.returns-clause-database
returns-clause-database c = database_stands

pub returns-clause-author : goal.returns-clause-author
returns-clause-author c = author_stands

pub returns-clause-preds : goal.returns-clause-preds
returns-clause-preds c = preds_stand

pub returns-clause-ops : goal.returns-clause-ops
returns-clause-ops c = ops_stand

pub returns-clause-note : goal.returns-clause-note
returns-clause-note c = note_stands

pub returns-clause-signature : goal.returns-clause-signature
returns-clause-signature c = signature_stands

pub returns-clause-update : goal.returns-clause-update
returns-clause-update c = update_stands
