use Rattle.table_model.proofs.PlainRows.{plain_shows}
use Rattle.table_model.proofs.laws.plain_rows_show.Goals as goal

pub returns : goal.returns
returns c rules did seen name none = plain_shows rules did seen name none
