use Rattle.command_words.proofs.requests.request_named.Goals as goal

pub returns-in-heads : goal.returns-in-heads
returns-in-heads c = rw c.in-heads.is c.heads_of.ensures

pub returns-in-check : goal.returns-in-check
returns-in-check c = rw c.in-check.is c.check_of.ensures

pub returns-in-dump : goal.returns-in-dump
returns-in-dump c = rw c.in-dump.is c.dump_of.ensures

pub returns-in-init : goal.returns-in-init
returns-in-init c = rw c.in-init.is c.init_of.ensures

pub returns-in-keygen : goal.returns-in-keygen
returns-in-keygen c = rw c.in-keygen.is c.keygen_of.ensures

pub returns-in-apply : goal.returns-in-apply
returns-in-apply c = rw c.in-apply.is c.apply_of.ensures

pub returns-in-join : goal.returns-in-join
returns-in-join c = rw c.in-join.is c.join_of.ensures

pub returns-in-export : goal.returns-in-export
returns-in-export c = rw c.in-export.is c.export_of.ensures

pub returns-in-query : goal.returns-in-query
returns-in-query c = rw c.in-query.is c.query_of.ensures

pub returns-in-merge : goal.returns-in-merge
returns-in-merge c = rw c.in-merge.is c.merge_of.ensures

pub returns-in-notes : goal.returns-in-notes
returns-in-notes c = rw c.in-notes.is c.notes_of.ensures
