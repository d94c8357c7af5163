use Rattle.command_words.proofs.import_requests.import_request_named.Goals as goal

pub returns-in-import : goal.returns-in-import
returns-in-import c = rw c.in-import.is c.import_of.ensures

pub returns-in-clone : goal.returns-in-clone
returns-in-clone c = rw c.in-clone.is c.clone_of.ensures
