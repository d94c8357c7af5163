use Rattle.look_commands.proofs.looking.shown.Goals as goal

pub returns-in-Csv : goal.returns-in-Csv
returns-in-Csv c = rw c.in-Csv.is c.answer_text.ensures
