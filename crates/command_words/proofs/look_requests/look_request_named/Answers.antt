use Rattle.command_words.proofs.look_requests.look_request_named.Goals as goal

pub returns-in-draw : goal.returns-in-draw
returns-in-draw c = rw c.in-draw.is c.draw_of.ensures

pub returns-in-log : goal.returns-in-log
returns-in-log c = rw c.in-log.is c.log_of.ensures

pub returns-in-show : goal.returns-in-show
returns-in-show c = rw c.in-show.is c.show_of.ensures

pub returns-in-who : goal.returns-in-who
returns-in-who c = rw c.in-who.is c.who_of.ensures

pub returns-in-diff : goal.returns-in-diff
returns-in-diff c = rw c.in-diff.is c.diff_of.ensures

pub returns-in-csv : goal.returns-in-csv
returns-in-csv c = rw c.in-csv.is c.csv_of.ensures

pub returns-in-key : goal.returns-in-key
returns-in-key c = rw c.in-key.is c.key_of.ensures
